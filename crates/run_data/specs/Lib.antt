pub mod Objects
pub mod ReportData
pub mod Omitted

pub mod Faults
pub mod Scans
pub mod Headers
pub mod Sources
pub mod Agreed

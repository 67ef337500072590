pub mod Texts
pub mod Left
pub mod Lines
pub mod Plain
pub mod Written
pub mod Omitted

pub mod Texts
pub mod Readings
pub mod Meaning
pub mod Forms
pub mod Tables
pub mod Stops

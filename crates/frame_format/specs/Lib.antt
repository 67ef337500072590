pub mod Formats
pub mod Headers
pub mod FaultNumbers
pub mod Places
pub mod Spelling
pub mod Faults
pub mod Reading

pub mod Found
pub mod Samples
pub mod Shrunk

pub mod Asking
pub mod Conditions
pub mod Questions
pub mod Told
pub mod Lines
pub mod Stops

pub mod Events
pub mod Laws
pub mod Limits
pub mod Names
pub mod Stored

pub mod Copies
pub mod Received
pub mod Noted
pub mod Alike
pub mod NetworkEvents
pub mod Copied
pub mod Read

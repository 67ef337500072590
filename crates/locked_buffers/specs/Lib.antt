pub mod Runs
pub mod Seats
pub mod Frames
pub mod Commits
pub mod Acts
pub mod Accounts
pub mod Posted

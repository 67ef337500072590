pub mod Views
pub mod Inboxes
pub mod Writing

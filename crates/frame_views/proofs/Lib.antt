pub mod Located
pub mod Inboxes
pub mod Entries
pub mod Rounds

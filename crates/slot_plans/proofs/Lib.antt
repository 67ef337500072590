pub mod Rounds
pub mod Slots

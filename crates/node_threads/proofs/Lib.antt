pub mod Placed
pub mod Together
pub mod Dropped
pub mod Ending
pub mod Crossing
pub mod Chosen
pub mod Joining
mod Copies
pub mod Turns

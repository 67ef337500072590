pub mod Bound
pub mod Clearness
pub mod Correct
pub mod Decisions
pub mod Pace
pub mod Seeking

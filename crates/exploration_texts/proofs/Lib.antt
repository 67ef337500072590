pub mod EachTold
pub mod Refusing
pub mod Showing
pub mod Stopping
pub mod Writing

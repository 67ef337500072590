pub mod Closed
pub mod Starting
pub mod Runs
mod Rows
pub mod Settled
pub mod Nodes
pub mod Asked
pub mod ReadRuns
pub mod Unknown

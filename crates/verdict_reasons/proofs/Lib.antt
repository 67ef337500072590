pub mod Rounds
pub mod Rowed
pub mod Standing
pub mod Paced
pub mod Overdue
pub mod Best
pub mod Rows

pub mod Reasons
pub mod Departures
pub mod Listing
pub mod Indexing
pub mod Idleness

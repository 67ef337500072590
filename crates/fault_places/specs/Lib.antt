pub mod Places
pub mod Excerpts
pub mod Nearness

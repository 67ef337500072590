pub mod Policies
pub mod Tables

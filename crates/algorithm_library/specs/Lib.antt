pub mod Agreeing
pub mod Programs
pub mod Texts
pub mod Refusals

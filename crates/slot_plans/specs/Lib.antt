pub mod Growing
pub mod Known
pub mod Laws
pub mod Named
pub mod NamedLaws
pub mod Plan
pub mod Slot

pub use Rattle.step_book.specs.Log
pub mod Schedules
pub mod Laws
pub mod Reports
pub mod Stages

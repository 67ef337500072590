pub use Rattle.step_book.specs.Log
pub mod Driving
pub mod Asking
pub mod Reading

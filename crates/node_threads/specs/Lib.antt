pub mod Stops
pub mod Bodies
pub mod Choices
pub mod Ends
pub mod Faults
pub mod Flights
pub mod Following
pub mod Turns

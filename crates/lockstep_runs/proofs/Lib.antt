pub mod Keys
pub mod Flights
pub mod Maps
pub mod Turns
pub mod Paces
pub mod Ticks
pub mod Judged
pub mod IdleTicks

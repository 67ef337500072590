pub mod Bits
pub mod Numbers
pub mod Pieces
pub mod Sizes
pub mod Fields
pub mod Spelled

pub mod Typing
pub mod HeldFrames
pub mod Framing
pub mod KnownKinds
pub mod Saying
pub mod Preparing
pub mod Leb128
pub mod StatesRead

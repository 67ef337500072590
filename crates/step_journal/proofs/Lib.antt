pub mod BufferViews
pub mod Handed
pub mod Named

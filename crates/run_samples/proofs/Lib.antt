pub mod RowLaws
pub mod RunLaws
mod ShrinkLaws

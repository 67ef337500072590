pub mod ClosedRows
pub mod RowsInTime

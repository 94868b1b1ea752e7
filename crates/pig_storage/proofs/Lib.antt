mod Cuts
mod Delims
pub mod FirstLine
mod Pieces
mod Loops
mod LineFree
mod Walks
pub mod StoredRows
pub mod Between
pub mod SplitLines
mod RowKinds
mod RowsBack
pub mod Starts
mod Windows

pub mod Between
mod Sorted
pub mod Inputs
pub mod Stretches
pub mod Coming
pub mod Products
pub mod Apart
pub mod Sides
pub mod Adding
mod Singles
pub mod SortEntries
pub mod Keying
pub mod RowEntries

pub mod Sums
pub mod Merging
mod Columns
pub mod Trees
mod Characters
mod Pieces
mod Joined
mod Arity
mod Kept
pub mod ValuesKept
pub mod LineFree
pub mod KindsKept

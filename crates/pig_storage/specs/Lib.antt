pub mod NextLine
pub mod Pieces
pub mod ReadBack
pub mod Splits
pub mod Windows

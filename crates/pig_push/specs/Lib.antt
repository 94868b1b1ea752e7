pub mod Lone
pub mod Merged

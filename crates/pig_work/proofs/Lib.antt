pub mod Attempted
pub mod Crossing

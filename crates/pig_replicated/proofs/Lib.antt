pub mod Adding
mod ByKeys
mod Coded
pub mod Crossing
mod Grouping
pub mod Held
mod Joined
pub mod Pieces
pub mod Probed
mod Samples
mod Searched
mod Sides

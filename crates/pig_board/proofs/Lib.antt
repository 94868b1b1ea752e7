pub mod CountLaws
pub mod Counts
pub mod EndLaws
mod Ends
mod Moves
pub mod Notes
mod Opening
mod Parts
mod Reached
pub mod Steps
mod Writes

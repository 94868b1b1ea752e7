mod Back
pub mod Bag
mod Find
pub mod Keeps
mod Opening
pub mod Reach
mod Settling
pub mod States
mod Steps

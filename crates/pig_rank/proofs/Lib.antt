pub mod Keys
pub mod Ranked
mod Samples
mod Sorted
mod Steps
mod Words
mod WrongBodies

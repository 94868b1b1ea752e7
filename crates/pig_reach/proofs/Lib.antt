pub mod Enough
mod Flowing
mod Once

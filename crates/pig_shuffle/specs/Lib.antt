pub mod Shuffling
pub mod Held
pub mod Taking

mod Samples
mod Fitting
mod Counting
mod Searching
pub mod Readings

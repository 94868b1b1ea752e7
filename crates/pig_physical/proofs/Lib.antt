mod Samples
mod Fitted
mod Slices
pub mod Loops
pub mod Headings
mod Named
mod Foldings
pub mod Waved
pub mod Crossing

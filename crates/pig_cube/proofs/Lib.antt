mod Turns
mod Samples
pub mod Expanded
pub mod Kinded
pub mod Fits
pub mod Grouped
pub mod Cubed

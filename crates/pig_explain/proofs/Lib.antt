mod Samples
mod Loops
mod Visiting

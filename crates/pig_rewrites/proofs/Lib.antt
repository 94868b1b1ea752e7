mod Taken
mod Least
mod Unmet
mod Outputs
pub mod OwnPaths
pub mod Alike

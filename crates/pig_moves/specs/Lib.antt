pub mod Depths
pub mod Pushed
pub mod Putting

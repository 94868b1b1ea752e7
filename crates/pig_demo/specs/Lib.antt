pub mod Faultless
pub mod Scene

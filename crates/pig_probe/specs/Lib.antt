pub mod Begun
pub mod Probing

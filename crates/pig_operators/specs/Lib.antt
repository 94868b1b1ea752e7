pub mod Given
pub mod Groups
pub mod Lent
pub mod OneGroup
pub mod Keying

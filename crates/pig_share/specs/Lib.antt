pub mod Shared
pub mod Same
pub mod Hashed
pub mod Table

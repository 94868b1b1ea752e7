pub mod Places
pub mod Stays
pub mod Means

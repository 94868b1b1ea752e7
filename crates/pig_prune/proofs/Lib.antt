mod Ends
pub mod Turns
pub mod Means

pub mod Collecting
pub mod Keeping
pub mod Laws
pub mod Tallies
pub mod Turns

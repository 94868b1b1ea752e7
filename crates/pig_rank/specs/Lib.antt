pub mod Laws
pub mod Ranks
pub mod Walks

pub mod Codes
pub mod Grouped
pub mod Held
pub mod Holding
pub mod Joining
pub mod Laws

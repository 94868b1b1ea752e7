pub mod Drives
pub mod Handed
pub mod Joining
pub mod Kept
pub mod Ranged
pub mod WordLaws

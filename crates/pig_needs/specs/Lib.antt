pub mod Needed
pub mod Found
pub mod Marked

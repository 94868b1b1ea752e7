pub mod lists
pub mod boxes

pub mod SortKeys
pub mod Bags
pub mod Steps
pub mod Foreach
pub mod Views

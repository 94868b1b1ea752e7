pub mod Indexing
pub mod Listing
pub mod Permutations
pub mod Bags
pub mod Distinct
pub mod Partitions
pub mod Runs
pub mod Elementwise

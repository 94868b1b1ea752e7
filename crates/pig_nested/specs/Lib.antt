pub mod Apart
pub mod Joinings
pub mod SortedBy

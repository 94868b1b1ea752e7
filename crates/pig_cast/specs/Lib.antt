pub mod Keyed
pub mod Plain
pub mod OpenBrackets

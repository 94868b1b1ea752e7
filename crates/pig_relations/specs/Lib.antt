pub mod Aliases
pub mod Together
pub mod Keyed
pub mod Operators
pub mod Unions
pub mod Views

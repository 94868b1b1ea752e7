pub mod ClapWords
pub mod CommandWords
pub mod Limits

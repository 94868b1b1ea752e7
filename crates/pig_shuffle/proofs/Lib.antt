mod Places
mod Entries
pub mod Runs
mod Keyed
mod Steps

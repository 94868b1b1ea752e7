mod Options
mod ClapRows
mod ClapTurns
mod ClapReads
mod ClapFinds
mod WordNumbers
pub mod Commands
pub mod Decisions

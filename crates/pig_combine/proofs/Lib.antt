mod Samples
mod Found
mod Added
mod Coded
mod Placed
mod Flushed

pub mod Adding
mod Samples

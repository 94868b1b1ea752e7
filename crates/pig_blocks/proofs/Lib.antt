mod Samples
pub mod Told
pub mod Found
pub mod BlockKinds
pub mod LineFree
mod CodeSteps

mod Samples
mod CodeLaws
pub mod ItemsTold
pub mod ItemsFound
pub mod ItemsHold
pub mod NoLineEnds

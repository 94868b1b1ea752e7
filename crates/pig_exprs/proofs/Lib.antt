mod CasesRead
mod Chosen
pub mod ExprsFormed
pub mod ExprsFound
pub mod ExprsSound
pub mod Finds
pub mod Fits
pub mod Follow
pub mod ListSound
pub mod NamesFound
pub mod NamesSound
pub mod Options
mod Turns
pub mod TypesFound
pub mod TypesSound

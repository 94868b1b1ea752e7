pub mod LoneReaders
pub mod LoneMoves
pub mod MergePass

mod Samples
pub mod Tables
mod Index
mod TogetherHolds
mod KeyedTold
pub mod OperatorsTold
mod KeyedHold
pub mod Gives
pub mod UnionGives
mod CastKeys
pub mod LineEnds

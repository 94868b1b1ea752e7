mod Samples
mod PlanSamples
mod WrongBodies
pub mod Unfolds
pub mod Gathered
pub mod Ordered
pub mod Looking
pub mod Lower
pub mod Grows
pub mod Adding
mod Twins
pub mod Marking
pub mod Paths
pub mod PathCounts
pub mod KeyedOnce
pub mod Seen
pub mod Through
pub mod ByTasks
pub mod ByPieces
mod Pairs
pub mod Listed
pub mod LoadRows
pub mod Carries
pub mod Meanings
pub mod Values
pub mod Conjoined
pub mod Moved
mod MoveSamples
pub mod Rewrites
pub mod Renumbering
pub mod LineFree
pub mod OfKinds
pub mod Exchanged
pub mod Room
pub mod Living
pub mod BareListed

mod Samples
pub mod Chains
pub mod References
mod Latest
pub mod Told
pub mod Found
mod Joined
pub mod Inside
pub mod KindsHold
pub mod CodeLaws
mod LinkSteps
pub mod ConditionsTold
pub mod ConditionsFound
pub mod ConditionsHold
pub mod NoLineEnds

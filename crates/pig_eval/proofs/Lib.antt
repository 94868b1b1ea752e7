mod Projections
mod TruthLaws
mod Chains
mod ColumnLaws
pub mod Evaluated

pub mod Parts
pub mod PartLaws
pub mod RowLaws
pub mod Cuts
pub mod Combining

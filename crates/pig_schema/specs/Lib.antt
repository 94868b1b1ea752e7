pub mod Names
pub mod FieldTrees

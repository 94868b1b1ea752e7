pub mod Cutting
pub mod ExprTrees
pub mod Formed
pub mod Scanner
pub mod Steps
pub mod Tokens

pub mod ExprReader
pub mod Grammar
pub mod Nests
pub mod Reader

pub mod Parsing
pub mod StatementReader
pub mod Statements

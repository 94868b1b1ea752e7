pub mod Standing
mod Growing
pub mod Lending
pub mod Adding

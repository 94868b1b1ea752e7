pub mod TextOrder
pub mod NumberOrder
mod CodeOrder
pub mod Unique
mod CodeBytes
pub mod Turned
pub mod KeyOrder
mod Writing
mod Sequences
mod Passing
mod Numbers
mod Forms
pub mod Wholes
mod Samples

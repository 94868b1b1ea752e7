pub mod Going
pub mod Lines
pub mod Looking
pub mod Parts
pub mod PlainScripts
mod Samples
pub mod Splitting
pub mod Taking

mod ExprSamples
mod BlockSamples
mod SignatureLaws
pub mod Found
pub mod KindsKept
pub mod BlocksKept
pub mod Carried
mod Widths
pub mod ValuesCarried
pub mod LinesCarried
mod FlatKinds

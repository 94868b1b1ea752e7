pub mod SeenValues
pub mod Truths
pub mod Columned
pub mod Looking

pub mod Driving
pub mod Ranges
pub mod Seeking
pub mod Stepping
pub mod Taking
pub mod Unmet
pub mod WordRows

pub mod Laws
pub mod Limits
pub mod Feeds
pub mod Listed
pub mod Tables
pub mod Traces

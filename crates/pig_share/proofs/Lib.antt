pub mod InOrder
pub mod Shares
pub mod Living
pub mod Limits
pub mod Meaning
pub mod Once
pub mod NoneAlike
pub mod SameLaws
pub mod Ends
pub mod Steps
pub mod Finding
pub mod Listed
mod Samples

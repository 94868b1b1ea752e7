mod ByCodes
pub mod Values

mod Items
mod Digits
mod NumberText
mod KeyOrder
mod Reading
mod Balance
mod OnePass
mod Between
pub mod FieldLaw
mod TextItems
pub mod ReadBack

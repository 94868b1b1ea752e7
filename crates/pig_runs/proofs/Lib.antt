pub mod Order
mod Adding
mod Reading
mod SortedSlots
mod Ends
mod FrontOrder
mod ByFronts
mod FrontedSlots
mod Joined
mod KWay
pub mod Merging
pub mod Lending
mod Halving
mod Sides
mod Sliced
pub mod Parted
mod InTurn
mod PartJoined
mod Placing
mod Stretched
mod Chosen
mod Walking
mod Once
mod RowTexts

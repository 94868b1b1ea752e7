pub mod Given
mod Loads
mod Going
pub mod Standing
mod Parted
mod Entries
mod Combined
mod Kept
mod Finishing
mod Brought
mod Probed
mod Formed
mod Ranked

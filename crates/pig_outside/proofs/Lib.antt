mod PlaceLaws
pub mod RangeLaws
pub mod ShelfLaws
mod ShelfSteps

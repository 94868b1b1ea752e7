mod Depths
pub mod OneAnswer
mod OneTree
mod PartsFound
pub mod SomeAnswer
mod StatementsFormed
mod StatementsFound
mod StatementsSound
mod TreeOf
mod TreesInTurn

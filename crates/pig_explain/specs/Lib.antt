pub mod Joins
pub mod Quoting
pub mod KindTexts
pub mod ExprTexts
pub mod NodeTexts
pub mod Numbered
pub mod WaveTexts
pub mod Explained

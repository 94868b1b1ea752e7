mod Ends
mod KindEnds
mod FunctionSamples
pub mod list_laws
pub mod TreeLaws
pub mod OrderLaws
pub mod KindLaws
pub mod ValidLaws
pub mod LeafLaws
pub mod NumberTexts
pub mod OfRead
mod LossyTexts
pub mod ReadLaws
pub mod FieldKinds
pub mod FieldFree
pub mod CastKinds
pub mod CastFree

pub mod Cuts
pub mod Fits
pub mod Plans
pub mod Laws

pub mod Dimensions
pub mod Cubes
pub mod Expanding
pub mod Laws

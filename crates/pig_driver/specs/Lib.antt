pub mod Standing
pub mod Slicing
pub mod Going
pub mod Sorting
pub mod Failing
pub mod Begun
pub mod Handing
pub mod Left

pub mod First
pub mod Reading
pub mod Making
pub mod Choosing
pub mod Copies
pub mod Copying
pub mod Working

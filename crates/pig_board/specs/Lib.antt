pub mod End
pub mod Laws
pub mod Pass
pub mod Rule
pub mod Told
pub mod View
pub mod Words

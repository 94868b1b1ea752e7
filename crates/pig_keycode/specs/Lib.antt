pub mod Appends
pub mod Codes
pub mod Codable
pub mod Keys
pub mod Reading

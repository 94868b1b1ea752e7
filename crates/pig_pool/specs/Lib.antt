pub mod Begins
pub mod Crew
pub mod Wave
pub mod Workers

pub mod Listing
pub mod Reading
pub mod Parsing
pub mod Held
pub mod Answers
pub mod Writing
pub mod Laws

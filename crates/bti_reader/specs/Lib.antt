pub mod Searches
pub mod Steps
pub mod Meaning
pub mod Vectors
pub mod Walks
pub mod Ways

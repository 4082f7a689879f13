pub mod Entries
pub mod File
pub mod Laws
pub mod Writing

pub mod Entries
pub mod Footers
pub mod Reading

pub mod Entries
pub mod Footers
pub mod Spans
pub mod Told

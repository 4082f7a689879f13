pub mod Sorted
pub mod Listing
pub mod Edges
pub mod Walk
pub mod Cursor

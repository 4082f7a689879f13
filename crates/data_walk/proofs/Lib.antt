pub mod Rows
pub mod Steps
pub mod Heads
pub mod Passing
pub mod Meeting
pub mod Finding

pub mod Told
pub mod Causes
pub mod Streams
pub mod Script
pub mod Files
pub mod Memory
pub mod Pages

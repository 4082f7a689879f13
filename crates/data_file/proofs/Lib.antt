pub mod Counted
pub mod Found
mod Cuts
mod Frames
mod Pages
mod Puts
pub mod Unique

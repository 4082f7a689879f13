mod Stores
mod Moves
mod Lists
mod Next
mod Turns
mod Steps
mod Ends
mod Prefixes
mod Adds
mod Finish
pub mod Final
pub mod Onward
pub mod Ascending
pub mod PartsLemmas
pub mod Fed

pub mod Walked
pub mod Listed
pub mod Indexed
pub mod Beside
pub mod Turns

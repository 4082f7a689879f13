pub mod Footing
pub mod Check

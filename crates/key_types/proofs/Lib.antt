pub mod Octets
pub mod Turned
pub mod Puts
pub mod Kept

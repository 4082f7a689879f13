pub mod Each
pub mod Between
pub mod Made
pub mod Seated
pub mod Together
pub mod Listed

pub mod Strings
pub mod Laws

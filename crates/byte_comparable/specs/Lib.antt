pub mod Encoding
pub mod Bytewise
pub mod Order
pub mod Strings

pub mod Growing
pub mod Rows
pub mod Separators
pub mod Written

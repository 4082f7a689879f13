pub mod Kinds
pub mod Columns
pub mod Layout
pub mod Table
pub mod Literals

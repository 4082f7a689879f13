pub mod Bounds
pub mod Grammar
pub mod Canonical
pub mod Reading
pub mod Parts
pub mod Answers
pub mod Laws

pub mod Words
pub mod Pointers
pub mod Slots
pub mod Cells
pub mod Laws

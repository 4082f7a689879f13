pub mod Bounds
pub mod Errors
pub mod Given
pub mod Printing
pub mod Steps
pub mod Laws
pub mod PrintReads

pub mod Rule
pub mod Kinds
pub mod Seats
pub mod Fields

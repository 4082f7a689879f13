pub mod Keeps
pub mod Watches
pub mod SeatFields
pub mod Ends

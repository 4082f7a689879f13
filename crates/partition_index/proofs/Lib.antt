pub mod Apart
pub mod Ended
pub mod Ends
pub mod Index
pub mod Places
pub mod Settled
pub mod Written

pub mod Shards
pub mod Seats
pub mod Together

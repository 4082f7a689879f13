pub mod Refusals
pub mod DataWalk
pub mod Passed
pub mod Ahead

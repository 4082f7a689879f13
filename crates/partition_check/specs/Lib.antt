pub mod Found
pub mod Data
pub mod Partitions

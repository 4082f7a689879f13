pub mod Ahead
pub mod Ascending
pub mod Parted
pub mod Standing

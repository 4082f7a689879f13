pub mod Puts
pub mod Reads
pub mod Jobs
pub mod Deal
pub mod Work
pub mod Merge

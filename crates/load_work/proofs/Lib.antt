pub mod Lists
pub mod Written
pub mod Answered
pub mod Dealing
pub mod Taking
pub mod Settling
pub mod Merging
pub mod Whole

pub mod Keys
pub mod Found
pub mod Shown
pub mod ShowReads

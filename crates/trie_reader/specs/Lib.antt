pub mod Read
pub mod Passing

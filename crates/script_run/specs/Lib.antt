pub mod Legal
pub mod Runs
pub mod Answers
pub mod Steps

pub mod Tokens
pub mod Grammar
pub mod Outside
pub mod Answers
pub mod Reading
pub mod Laws
pub mod Marking
pub mod Written

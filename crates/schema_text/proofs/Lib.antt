mod Fuel
mod Relation
mod Exactly
mod Wholly
mod Spelled
mod Named
mod Texts
mod Agree
mod Parsed
mod Bounded
mod Written
pub mod Short
pub mod Unique

pub mod SchemaLemmas
pub mod WalkLemmas
mod Determined
pub mod Strings
pub mod Blocked
pub mod Numbering
pub mod Indexed
pub mod Passing

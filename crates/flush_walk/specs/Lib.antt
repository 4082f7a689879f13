pub mod Growing
pub mod Given
pub mod Current
pub mod Writing
pub mod Entries
pub mod TableEntries
pub mod Flushed

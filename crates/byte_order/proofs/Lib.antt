pub mod Prefixes
pub mod Shared
pub mod Among
pub mod Sizes

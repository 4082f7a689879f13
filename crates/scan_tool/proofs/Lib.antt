mod Pushes
pub mod Turns
mod Lined
pub mod Named
mod Scanned
pub mod Ranged
pub mod Counting

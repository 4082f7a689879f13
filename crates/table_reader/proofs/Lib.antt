pub mod Tables
pub mod Rows
pub mod Held
pub mod Places
pub mod Steps
pub mod Lookup
pub mod InBlock
pub mod Indexed
pub mod Whole
pub mod Footers
pub mod Bounds
pub mod SeekBounds
pub mod Seeks
pub mod Windows
pub mod ScanSteps
pub mod Giving
pub mod Going
pub mod Nearing
pub mod Scanning
pub mod Orders
mod Named
mod Soon
pub mod Leaving
mod Beginning
mod Starts
pub mod Ranged
pub mod Sounds
pub mod ScanSounds

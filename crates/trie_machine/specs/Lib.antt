pub mod Fresh
pub mod State
pub mod Events
pub mod Laws
pub mod Counted

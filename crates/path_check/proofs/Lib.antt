pub mod Next
pub mod Following

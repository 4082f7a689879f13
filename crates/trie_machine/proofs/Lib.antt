pub mod Lists
pub mod FreshLemmas
pub mod Writers
pub mod Readers
pub mod Stores
pub mod Machines
pub mod Standing

pub mod Key
pub mod Pages
pub mod Lending

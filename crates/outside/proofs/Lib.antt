mod Pieces
mod Shelves
pub mod Sets

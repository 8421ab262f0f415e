pub mod Pieces
pub mod Laids
pub mod Keeping

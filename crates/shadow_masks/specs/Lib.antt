pub mod Labels
pub mod Pages
pub mod Pieces
pub mod Points
pub mod Shades
pub mod Writes

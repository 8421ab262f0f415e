pub mod Askers
pub mod Weights
pub mod Strings
pub mod HexText
pub mod Returns

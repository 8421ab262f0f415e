pub mod Equals
pub mod DecimalWords

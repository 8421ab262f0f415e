pub mod Parts
pub mod CommandLines
pub mod Words
pub mod Private

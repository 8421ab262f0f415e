pub mod Signs
pub mod Splits
pub mod Tables
pub mod Encodes
pub mod Decodes
pub mod DecodedWords

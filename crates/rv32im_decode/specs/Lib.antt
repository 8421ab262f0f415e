pub mod Operations
pub mod Formats
pub mod Listings
pub mod Encoding
pub mod Fields
pub mod Kinds
pub mod Decoding

pub mod SecretBytes
pub mod CodeLengths
pub mod Codes

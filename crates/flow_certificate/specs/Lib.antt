pub mod Keeping
pub mod Verdicts
pub mod VerdictTexts
pub mod Lines
pub mod Certificates
pub mod Pictures
pub mod Laws
pub mod Private

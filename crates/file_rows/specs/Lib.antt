pub mod Judging
pub mod Ranges
pub mod Agreeing

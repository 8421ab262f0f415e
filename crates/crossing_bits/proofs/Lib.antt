pub mod Feeding
pub mod Weighing
pub mod Outputs
pub mod Places

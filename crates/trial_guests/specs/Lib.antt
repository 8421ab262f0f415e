pub mod Secrets
pub mod Programs

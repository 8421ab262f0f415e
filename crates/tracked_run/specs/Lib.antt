pub mod Labels
pub mod Linking
pub mod Outcomes
pub mod Runs
pub mod Private

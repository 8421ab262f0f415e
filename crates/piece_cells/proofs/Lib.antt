pub mod ByteSets
pub mod Covers
pub mod Decisions
pub mod Loops
pub mod Tellings

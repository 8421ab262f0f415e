pub mod ReplayTurns
pub mod Runs
pub mod Starts
pub mod Visits
pub mod Tables
pub mod Standing
pub mod Marks
pub mod Private

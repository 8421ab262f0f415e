pub mod Clearing
pub mod Deciding
pub mod Looking
pub mod Answers
pub mod Notes

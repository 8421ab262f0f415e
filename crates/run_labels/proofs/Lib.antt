mod Turns
pub mod TableAnswers

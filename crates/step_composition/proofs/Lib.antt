pub mod Composing
pub mod Slots

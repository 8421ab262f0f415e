pub mod AgainNotes
pub mod Appending
pub mod ByteMasks
pub mod Nodes
pub mod PassingNotes
pub mod Settings
pub mod TrackedTurns

-- Definitions that only functions of this crate have in their contracts; no public contract stands on them.
pub mod Recordings
pub mod Joining
pub mod WeighingAll
pub mod Points

-- Definitions that only functions of this crate have in their contracts; no public contract stands on them.
pub mod Sides
pub mod Replaying
pub mod Copies

-- Definitions that only functions of this crate have in their contracts; no public contract stands on them.
pub mod Sums
pub mod Sides
pub mod Guessing
pub mod Drafts
pub mod Reading

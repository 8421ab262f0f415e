-- Definitions that only functions of this crate have in their contracts; no public contract stands on them.
pub mod Members
pub mod Marks
pub mod Notes
pub mod Books
pub mod Spans
pub mod Declarations

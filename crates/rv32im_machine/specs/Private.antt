-- Definitions that only functions of this crate have in their contracts; no public contract stands on them.
pub mod Passings
pub mod LoadsStores
pub mod SparseBytes

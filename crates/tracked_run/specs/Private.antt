-- Definitions that only functions of this crate have in their contracts; no public contract stands on them.
pub mod Noting
pub mod Tracking
pub mod Again

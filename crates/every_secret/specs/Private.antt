-- Definitions that only functions of this crate have in their contracts; no public contract stands on them.
pub mod Tapes
pub mod Visited
pub mod Idle
pub mod Resting
pub mod Walking
pub mod Turning
pub mod Walks
pub mod Orders
pub mod Spots
pub mod Sums
pub mod OpenPlaces
pub mod Closing
pub mod Searching
pub mod Numbers
pub mod KeptPatterns
pub mod Folding

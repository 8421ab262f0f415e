-- Definitions that only functions of this crate have in their contracts; no public contract stands on them.
pub mod Networks
pub mod GraphNetworks
pub mod Rooms
pub mod Chains
pub mod Searching
pub mod Solving
pub mod Sides
pub mod Deepening
pub mod Balances

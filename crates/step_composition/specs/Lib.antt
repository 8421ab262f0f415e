pub mod Methods
pub mod Composed
pub mod Slots
pub mod Laws

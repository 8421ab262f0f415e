pub mod Faults
pub mod Uniting
pub mod Measures
pub mod Causes
pub mod Accepting
pub mod Laws
pub mod Following
pub mod Private

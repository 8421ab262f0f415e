pub mod Flows
pub mod Building
pub mod Laws
pub mod Private

pub mod Limits
pub mod Collapses
pub mod Laws
pub mod KeptLinks
pub mod Adding
pub mod Private

pub mod Cleared
pub mod Reasons
pub mod Tainted
pub mod Whys
pub mod Laws
pub mod Private

pub mod SameBytes
pub mod Growing
pub mod LaidBytes
pub mod LastFirst
pub mod Laws
pub mod Masks
pub mod Settled

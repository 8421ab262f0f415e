pub mod Keys
pub mod Ordered
pub mod Longer
pub mod Searches
pub mod AskedItems

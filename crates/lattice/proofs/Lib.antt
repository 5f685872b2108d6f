pub mod Members
pub mod Masks
pub mod Values
pub mod Searches
pub mod Meets

pub mod Lists
pub mod Ranges
pub mod Ledgers
pub mod Values
pub mod Follows
pub mod Promises
pub mod Labellings

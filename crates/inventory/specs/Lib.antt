pub mod View
pub mod Sound
pub mod Answers
pub mod Inventories
pub mod Checks
pub mod Resettled
pub mod Paths
pub mod Promised

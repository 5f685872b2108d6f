pub mod Ledger
pub mod Run
pub mod Sound
pub mod Promise
pub mod Labelling

pub mod Faults
pub mod Verbs
pub mod Meanings
pub mod Answers
pub mod Stops
pub mod Values

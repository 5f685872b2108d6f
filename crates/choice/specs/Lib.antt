pub mod Rows
pub mod Choices

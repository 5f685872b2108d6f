pub mod Printed
pub mod Reading
pub mod Rows
pub mod Texts

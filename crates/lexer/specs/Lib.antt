-- The files of the specification.
pub mod Classes
pub mod Lines
pub mod Words
pub mod Names
pub mod Numbers
pub mod Sets

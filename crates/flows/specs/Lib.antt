-- The files of the specification.
pub mod Graph
pub mod Certificate
pub mod Fitting
pub mod Paths
pub mod Settled
pub mod Fronts
pub mod Rounds
pub mod Charts

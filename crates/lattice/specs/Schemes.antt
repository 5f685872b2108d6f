-- Four lattices, one for each attribute. Assumes nothing.
--   Scheme        the orders of the four attributes
--   Lattices      each of them is a lattice
--   scheme_sizes  their sizes
use Rattle.lattice.specs.Order.{Order, Lattice}
use Rattle.lattice.specs.declared.sizes.Sizes.{Sizes}

pub record Scheme : Type 0 where
  pub store : Order
  pub purpose : Order
  pub role : Order
  pub types : Order

abbrev pub scheme_of : Order → Order → Order → Order → Scheme
scheme_of store purpose role types = record { store = store; purpose = purpose; role = role; types = types }

pub record Lattices (s : Scheme) : Type 0 where
  pub store : Lattice s.store
  pub purpose : Lattice s.purpose
  pub role : Lattice s.role
  pub types : Lattice s.types

abbrev pub scheme_sizes : Scheme → Sizes
scheme_sizes s = record { store = s.store.size; purpose = s.purpose.size; role = s.role.size; types = s.types.size }

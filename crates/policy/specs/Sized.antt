-- Sizes of lattices: from 2 to 64 values. Assumes nothing.
use Rattle.std.specs.Prelude.{◌≤◌}
use Rattle.lattice.specs.declared.sizes.Sizes.{Sizes}

pub record Sized (z : Sizes) : Type 0 where
  pub store_low : 2 ≤ z.store
  pub store_high : z.store ≤ 64
  pub purpose_low : 2 ≤ z.purpose
  pub purpose_high : z.purpose ≤ 64
  pub role_low : 2 ≤ z.role
  pub role_high : z.role ≤ 64
  pub types_low : 2 ≤ z.types
  pub types_high : z.types ≤ 64

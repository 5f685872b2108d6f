-- Labels as they are written, where the empty set is an attribute left out. Assumes nothing.
--   or_top    a set, or the top alone where it is left out
--   filled    the list of a clause: any attribute may be left out
--   declared  what is judged: its data types are never left out, and may be none
use Rattle.std.specs.Prelude.{ℕ, ◌-◌, ◌^◌, cond, ◌==◌}
use Rattle.lattice.specs.declared.sizes.Sizes.{Sizes}
use Rattle.policy.specs.declared.label.Label.{Label}

abbrev pub or_top : ℕ → ℕ → ℕ
or_top n s = cond (s == 0) (2 ^ (n - 1)) s

abbrev pub filled : Sizes → Label → Label
filled z l = record { store = or_top z.store l.store; purpose = or_top z.purpose l.purpose; role = or_top z.role l.role; types = or_top z.types l.types }

abbrev pub declared : Sizes → Label → Label
declared z l = record { store = or_top z.store l.store; purpose = or_top z.purpose l.purpose; role = or_top z.role l.role; types = l.types }

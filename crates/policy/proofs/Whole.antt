-- The records that words leave are all of one clause: they nest, and their tree is that clause.
use Rattle.std.proofs.Common.{◌≡◌, ℕ, ◌≤◌, List, length, take, sym, ◌∙◌, arith, length-take-le, get_or-take}
use Rattle.lattice.specs.Schemes.{Scheme, Lattices, scheme_sizes}
use Rattle.lattice.specs.declared.sizes.Sizes.{Sizes}
use Rattle.policy.specs.declared.clause.ClauseRecord.{ClauseRecord}
use Rattle.policy.specs.Clauses.{Clause, clause_count}
use Rattle.policy.specs.Laid.{LaidClause}
use Rattle.policy.specs.Records.{no_record, tree, Nested}
use Rattle.policy.specs.Sized.{Sized}
use Rattle.policy.specs.Stands.{Stands}
use Rattle.policy.specs.Words.{meaning}
use Rattle.policy.proofs.Recorded.{count_meaning}
use Rattle.policy.proofs.Trees.{laid_clause_same, tree_laid, nested_laid}

-- the same of records at the front of more
module _ (rs : List ClauseRecord) (c : Clause) (n : ℕ) (laid : LaidClause rs 0 c) (count : n ≡ clause_count c) (room : n ≤ length rs) where
  front_laid : LaidClause (take n rs) 0 c
  front_laid = laid_clause_same rs (take n rs) 0 c (λ j low high. get_or-take n rs j no_record (omega arith)) laid

  front_all : length (take n rs) ≡ clause_count c
  front_all = length-take-le n rs room ∙ count

  pub front_nested : Nested (take n rs)
  front_nested = nested_laid (take n rs) c front_all front_laid

  pub front_tree : tree (take n rs) 0 ≡ c
  front_tree = tree_laid (take n rs) 0 c (omega (arith, front_all)) front_laid

pub stands_few : (z : Sizes) (ws : List ℕ) (rs : List ClauseRecord) (s : Stands z ws rs) → length rs ≤ 256
stands_few z ws rs s = omega (arith, s.count, s.written.2)

pub stands_count : (z : Sizes) (ws : List ℕ) (rs : List ClauseRecord) (s : Stands z ws rs) → length rs ≡ clause_count (meaning z s.clause)
stands_count z ws rs s = s.count ∙ sym (count_meaning z s.clause)

-- the sizes of lattices are from 2 to 64
pub sized : (s : Scheme) → Lattices s → Sized (scheme_sizes s)
sized s laws = record {
  store_low = laws.store.at_least_two;
  store_high = laws.store.at_most_64;
  purpose_low = laws.purpose.at_least_two;
  purpose_high = laws.purpose.at_most_64;
  role_low = laws.role.at_least_two;
  role_high = laws.role.at_most_64;
  types_low = laws.types.at_least_two;
  types_high = laws.types.at_most_64;
}

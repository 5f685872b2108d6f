use Rattle.std.proofs.Common.{◌≡◌, Some, refl, subst}
use Rattle.std.proofs.lemmas.Result.{err_from_is_err_and}
use Rattle.lattice.specs.Schemes.{Scheme, scheme_sizes}
use Rattle.lattice.specs.declared.sizes.Sizes.{Sizes}
use Rattle.policy.specs.Words.{words_fault}
use Rattle.policy.proofs.Taken.{refused, stands_nested, stands_some, taken}
use Rattle.policy.proofs.Whole.{sized}
use Rattle.policy.proofs.policy.Policy.read.Goals as goal

pub invariant_of-self : goal.invariant_of-self
invariant_of-self g c =
    let s = c.in_ok-clauses.ensures.0 in
    record { some = stands_some _ _ _ s; nested = ∣ stands_nested _ _ _ s ∣₁ }

pub returns-in_err-clauses : goal.returns-in_err-clauses
returns-in_err-clauses g c =
    let s : Scheme = g.V.Vocabulary.orders c.args.scheme.now in
    let p = err_from_is_err_and c.from_residual.result c.from_residual.ensures.1 in
    let fault = subst (λ (z : Sizes). words_fault z c.args.words.now ≡ Some c.in_err-clauses.field-0.0) c.sizes.ensures c.in_err-clauses.ensures in
    let none = refused (scheme_sizes s) (sized s (g.met.V.Vocabulary.lawful c.args.scheme.now)) c.args.words.now c.in_err-clauses.field-0.0 fault in
    rw (p.1, p.2) (fault, none, refl)

pub returns : goal.returns
returns g c =
    let s : Scheme = g.V.Vocabulary.orders c.args.scheme.now in
    let e = c.in_ok-clauses.ensures in
    taken _ _ _ e.0 (scheme_sizes s) _ c.sizes.ensures (sized s (g.met.V.Vocabulary.lawful c.args.scheme.now)) e.1 e.2

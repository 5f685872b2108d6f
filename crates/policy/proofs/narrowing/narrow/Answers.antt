use Rattle.std.proofs.Common.{◌≡◌, ℕ, sym, ap, ◌∙◌, rules, arith}
use Rattle.std.specs.List.{fold}
use Rattle.std.proofs.lemmas.Bool.{cond_below}
use Rattle.lattice.specs.Order.{Order, Lattice}
use Rattle.lattice.specs.Sets.{with, inserted, values_of}
use Rattle.lattice.proofs.Values.{image_list}
use Rattle.policy.specs.Clauses.{overlap, narrowed_in}
use Rattle.policy.proofs.Bounds.{overlap_inside}
use Rattle.policy.proofs.narrowing.narrow.Goals as goal

pub returns : goal.returns
unfolding narrowed_in
returns g c =
    let o : Order = g.L.Lattice.order c.args.lattice.now in
    let laws : Lattice o = g.met.L.Lattice.lawful c.args.lattice.now in
    let f : ℕ → ℕ = overlap o c.args.label in
    let e : c.fold.result ≡ fold (λ made w. inserted made (f w)) 0 (values_of c.args.list) = search rules in
    let low : (made w : ℕ) → inserted made (f w) ≡ with made (f w) =
    λ made w. sym (cond_below (f w) 64 (with made (f w)) made (omega (arith, overlap_inside o laws c.args.label w, laws.at_most_64))) in
    e ∙ ap (λ (put : ℕ → ℕ → ℕ). fold put 0 (values_of c.args.list)) (λ i made w. low made w i) ∙ sym (image_list f c.args.list)

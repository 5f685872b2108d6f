-- The front of the piece is the walk's, and the rest is left.
use Rattle.std.proofs.Common.{◌≡◌, ◌++◌, length, take, drop, refl, sym, ap, ◌∙◌, true≢false}
use Rattle.std.proofs.Math.Seq.{take-append_seam, drop-append_seam}
use Rattle.std.proofs.lemmas.List.{length-take-le}
use Rattle.flows.specs.Paths.{hops}
use Rattle.flows.proofs.walking.walk.Goals as goal

pub returns : goal.returns
returns c =
    let fits = c.if-count-piece.false in
    let front_long = length-take-le c.args.count c.args.piece.now fits in
    let front = c.walk_all.new.piece in
    let back = drop c.args.count c.args.piece.now in
    let long : length front ≡ c.args.count = c.walk_all.auto.piece ∙ front_long in
    record {
      fits = (λ _. fits, λ _. refl);
      hops = λ _. sym (ap (λ k. take k (front ++ back)) long) ∙ take-append_seam front back ∙ c.walk_all.ensures
          ∙ ap (λ k. hops c.args.workspace.now c.args.flows.now k c.args.node c.args.value) front_long;
      rest = sym (ap (λ k. drop k (front ++ back)) long) ∙ drop-append_seam front back;
      refused = λ e. absurd (true≢false e);
    }

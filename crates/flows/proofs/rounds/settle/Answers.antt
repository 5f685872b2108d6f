-- The chains, the cleared words and the marks are what the first round starts from.
use Rattle.std.proofs.Common.{ℕ, ◌≡◌, ◌+◌, ◌*◌, ◌^◌, ◌<◌, Option, None, length, sym, ◌∙◌, subst, arith}
use Rattle.std.proofs.lemmas.List.{length-take}
use Rattle.flows.specs.Graph.{graph}
use Rattle.flows.specs.Certificate.{Certified}
use Rattle.flows.specs.Fitting.{SmallMarks}
use Rattle.flows.specs.Rounds.{Starts}
use Rattle.flows.specs.Settled.{Relabeled}
use Rattle.flows.proofs.Listings.{same_reads, front_reads}
use Rattle.flows.proofs.Relabels.{relabeled_more, same_marks}
use Rattle.flows.proofs.Spreads.{fitting_kept, begun}
use Rattle.flows.proofs.Trails.{shortest_paths}
use Rattle.flows.proofs.rounds.settle.Goals as goal

pub chain-requires-clause-none : goal.chain-requires-clause-none
chain-requires-clause-none c = front_reads {X = Option ℕ} None _ (same_reads {X = Option ℕ} None 4096) _

pub run-requires-clause-charted : goal.run-requires-clause-charted
run-requires-clause-charted c = record { room = omega (arith, c.chain.auto.link, c.requires.few_flows, length-take {A = Option ℕ}); chained = c.chain.ensures }

pub run-requires-clause-starts : goal.run-requires-clause-starts
run-requires-clause-starts c =
    let N = length c.args.nodes.now in
    let F = length c.args.flows.now in
    let heads : length c.chain.new.head ≡ N = omega (arith, c.chain.auto.head, c.requires.few_nodes, length-take {A = Option ℕ}) in
    let words = c.begin-fresh.ensures.cleared in
    let b = c.begin-fresh.ensures.begun in
    subst (λ k. Starts (graph c.begin-fresh.new.nodes c.args.flows.now c.args.rows.now k F) c.begin-fresh.new.workspace c.begin-fresh.result) (sym heads)
    (begun (graph c.begin-fresh.new.nodes c.args.flows.now c.args.rows.now N F) _ c.begin-fresh.result
    (fitting_kept c.args.nodes.now c.begin-fresh.new.nodes c.args.flows.now c.args.rows.now N F c.args.workspace.now _ c.begin-fresh.auto.nodes words.long c.requires)
    b.small b.long b.within b.labels (λ n v ln lv. words.below (128 * n + v) (omega arith)) b.starts)

pub returns : goal.returns
returns c =
    let N = length c.args.nodes.now in
    let F = length c.args.flows.now in
    let heads : length c.chain.new.head ≡ N = omega (arith, c.chain.auto.head, c.requires.few_nodes, length-take {A = Option ℕ}) in
    let words = c.begin-fresh.ensures.cleared in
    let same = subst (λ k. Relabeled k c.begin-fresh.new.nodes c.run.new.nodes) heads c.run.ensures.same in
    let G = graph c.run.new.nodes c.args.flows.now c.args.rows.now N F in
    let nodes_long = c.run.auto.nodes ∙ c.begin-fresh.auto.nodes in
    let words_long = c.run.auto.workspace ∙ words.long in
    let fits = fitting_kept c.args.nodes.now c.run.new.nodes _ _ N F c.args.workspace.now c.run.new.workspace nodes_long words_long c.requires in
    let small_marks : SmallMarks G = λ n ln. subst (λ k. k < 2 ^ 64) (sym (same_marks _ _ same n)) (c.begin-fresh.ensures.begun.small n ln) in
    let certified : Certified G c.run.new.workspace =
    subst (λ k. Certified (graph c.run.new.nodes c.args.flows.now c.args.rows.now k F) c.run.new.workspace) heads c.run.ensures.certified in
    let paths = shortest_paths G c.run.new.workspace fits.joined fits.bounded small_marks certified in
    record {
      same = relabeled_more _ _ _ _ c.begin-fresh.ensures.begun.same same;
      nodes_long = nodes_long;
      past = λ i l. c.run.ensures.past i (omega (arith, heads)) ∙ words.past i l;
      words_long = words_long;
      small = λ n ln. c.run.ensures.small n (omega (arith, heads));
      small_marks = small_marks;
      fits = fits;
      certified = certified;
      reached = paths.0;
      complete = paths.1;
    }

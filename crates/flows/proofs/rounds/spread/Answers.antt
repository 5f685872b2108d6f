-- What is settled over the first nodes and flows is settled over the whole lists.
use Rattle.std.proofs.Common.{arith}
use Rattle.std.proofs.lemmas.Result.{on_ok_weaker}
use Rattle.flows.proofs.Firsts.{after_settled}
use Rattle.flows.proofs.rounds.spread.Goals as goal

pub returns-then-flow_count-flows-clause-settled : goal.returns-then-flow_count-flows-clause-settled
returns-then-flow_count-flows-clause-settled c =
    on_ok_weaker c.spread_all.result
    (after_settled c.args.nodes.now c.args.flows.now c.args.rows.now c.args.node_count c.args.flow_count c.args.workspace.now (omega arith) (omega arith) c.spread_all.new.nodes c.spread_all.new.workspace)
    c.spread_all.ensures.settled

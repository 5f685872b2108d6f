-- Each turn chains one more flow.
use Rattle.std.proofs.Common.{arith}
use Rattle.flows.proofs.Chains.{chain_more}
use Rattle.flows.proofs.chaining.chain.Goals as goal

pub loop-number-preserved : goal.loop-number-preserved
loop-number-preserved c = rw (c.replace.ensures.value, c.replace.ensures.after) (chain_more c.args.flows.now c.loop-number.number c.loop-number.head c.loop-number.link c.loop-number.invariant
    (omega (arith, c.requires.starts c.loop-number.number (omega arith), c.loop-number.auto.head)) (omega (arith, c.loop-number.auto.link, c.requires.room.0)))

use Rattle.ledger.proofs.Promises.{runs_keep_the_promise, fresh_runs_keep_the_promise}
use Rattle.ledger.proofs.theorems.runs_keep_the_promise.Goals as goal

pub returns : goal.returns
returns c = record { runs = runs_keep_the_promise; fresh = fresh_runs_keep_the_promise }

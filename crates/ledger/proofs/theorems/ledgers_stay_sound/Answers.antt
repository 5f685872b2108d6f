use Rattle.ledger.proofs.Promises.{ledgers_stay_sound}
use Rattle.ledger.proofs.theorems.ledgers_stay_sound.Goals as goal

pub returns : goal.returns
returns c = ledgers_stay_sound

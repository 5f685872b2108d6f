-- The law over whole runs. Assumes nothing.
use Rattle.std.specs.Prelude.{ℕ, List}
use Rattle.lattice.specs.declared.sizes.Sizes.{Sizes}
use Rattle.ledger.specs.Ledger.{Ledger, Call, fresh, after}
use Rattle.ledger.specs.Run.{Event, EveryCallAnswered, EveryJudgementRight}
use Rattle.ledger.specs.Sound.{Sound, EveryCallBringsLattices}

-- where every call of a run is answered as the ledger before it says, every judgement is right
abbrev pub RunsKeepThePromise : Type 0
RunsKeepThePromise =
    (L : Ledger) → Sound L → (events : List Event) → EveryCallBringsLattices events →
    EveryCallAnswered L events → EveryJudgementRight L events

-- a fresh ledger is sound, and each call keeps it so
abbrev pub LedgersStaySound : Type 0
LedgersStaySound =
    ((z : Sizes) (nodes flows words : ℕ) → Sound (fresh z nodes flows words)) ×
    ((L : Ledger) (c : Call) → Sound L → Sound (after L c))

-- so the law holds of every run from a fresh ledger on
abbrev pub FreshRunsKeepThePromise : Type 0
FreshRunsKeepThePromise =
    (z : Sizes) (nodes flows words : ℕ) (events : List Event) → EveryCallBringsLattices events →
    EveryCallAnswered (fresh z nodes flows words) events → EveryJudgementRight (fresh z nodes flows words) events

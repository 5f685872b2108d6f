-- The flows of a path.
use Rattle.std.proofs.Common.{◌≡◌, ℕ, ◌+◌, ◌<◌, false, eqb, List, [], ◌∷◌, ◌++◌, length, get_or, take, codes, sym, refl, ap, ◌∙◌, true≢false}
use Rattle.std.proofs.lemmas.List.{take_more, flat_map_more}
use Rattle.std.specs.List.{flat_map}
use Rattle.commands.specs.Answers.{flow_text, path_text}

-- one flow more
pub flows_step : (fs : List ℕ) (i : ℕ) (before now : List ℕ) → i < length fs → before ≡ codes "flows" ++ flat_map flow_text (take i fs) →
    now ≡ before ++ flow_text (get_or fs i 0) → now ≡ codes "flows" ++ flat_map flow_text (take (i + 1) fs)
flows_step fs i before now l e all =
    all ∙ ap (λ (t : List ℕ). t ++ flow_text (get_or fs i 0)) e ∙ flat_map_more flow_text (codes "flows") (take i fs) (get_or fs i 0)
    ∙ ap (λ (t : List ℕ). codes "flows" ++ flat_map flow_text t) (sym (take_more fs i 0 l))

pub path_some : (fs : List ℕ) → eqb (length fs) 0 ≡ false → codes "flows" ++ flat_map flow_text fs ≡ path_text fs
path_some [] e = absurd (true≢false e)
path_some (f ∷ fs) e = refl

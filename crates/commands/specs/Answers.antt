-- What is printed for an answer. Assumes nothing.
--   refusal_text   a refusal, by its number, place and layer, in plain words
--   set_text       the values of a set in rising order, in braces
--   verdict_text   passed, or refused with the evidence
--   path_text      the flows of a path
--   answer_text    an answer to a call
use Rattle.std.specs.Prelude.{ℕ, Bool, true, false, List, [], ◌∷◌, ◌++◌, codes, decimal}
use Rattle.std.specs.List.{fold, flat_map}
use Rattle.lattice.specs.Sets.{values_of}
use Rattle.refusals.specs.Refusals.{number_of, layer_of}
use Rattle.refusals.specs.Texts.{words_of, layer_word}
use Rattle.refusals.specs.declared.refusal.Refusal.{Refusal}
use Rattle.ledger.specs.Run.{Answer, refused, done, numbered, judged, shown}
use Rattle.runs.specs.declared.calls.Call.{Call}
use Rattle.runs.specs.declared.calls.Call.TheVariants.{Step}

abbrev pub refusal_text : Refusal → List ℕ
refusal_text r =
    codes "declined " ++ (decimal (number_of r.reason) ++ (codes " at " ++ (decimal r.place ++ (codes " (" ++ (layer_word (layer_of r.reason) ++ (codes "): " ++ words_of r.reason))))))

-- a comma goes before a value that is not the first
abbrev pub comma_after : List ℕ → List ℕ
comma_after [] = []
comma_after (b ∷ bs) = codes ", "

-- a text of values with one value more
abbrev pub one_more : List ℕ → ℕ → List ℕ
one_more text v = text ++ (comma_after text ++ decimal v)

abbrev pub set_text : ℕ → List ℕ
set_text s = codes "{" ++ (fold one_more [] (values_of s) ++ codes "}")

abbrev pub verdict_text : Bool → ℕ → ℕ → List ℕ
verdict_text true clause evidence = codes "passed by clause " ++ decimal clause
verdict_text false clause evidence = codes "refused by clause " ++ (decimal clause ++ (codes ", evidence " ++ set_text evidence))

abbrev pub flow_text : ℕ → List ℕ
flow_text f = codes " " ++ decimal f

abbrev pub path_text : List ℕ → List ℕ
path_text [] = codes "no flow"
path_text (f ∷ fs) = codes "flows" ++ flat_map flow_text (f ∷ fs)

-- only enter and step are answered with a number
abbrev pub number_text : Call → ℕ → List ℕ
number_text (Step row len) n = codes "step " ++ decimal n
number_text call n = codes "node " ++ decimal n

abbrev pub answer_text : Call → Answer → List ℕ
answer_text call (refused r) = refusal_text r
answer_text call done = codes "done"
answer_text call (numbered n) = number_text call n
answer_text call (judged passed clause evidence) = verdict_text passed clause evidence
answer_text call (shown flows) = path_text flows

abbrev pub size_text : ℕ → List ℕ
size_text n = codes "size " ++ decimal n

abbrev pub count_text : ℕ → List ℕ
count_text n = decimal n ++ codes " clauses"

abbrev pub room_text : ℕ → ℕ → List ℕ
room_text nodes flows = codes "room for " ++ (decimal nodes ++ (codes " nodes and " ++ (decimal flows ++ codes " flows")))

-- What some of the workers counted, while the others were not called.
use Rattle.std.proofs.Common.{◌≡◌, ℕ, ◌++◌, List, drop, take, ap, subst, sym, ◌∙◌, arith}
use Rattle.std.proofs.lemmas.List.{map-append, take-append-drop}
use Rattle.std.proofs.lemmas.List.Sums.{sum_by-append}
use Rattle.fg_crew.specs.declared.slot.Slot.{Slot}
use Rattle.fg_iter.specs.Crew.{counted_in}
use Rattle.fg_task.specs.Blocks.{Blocks}
use Rattle.fg_task.specs.Spending.{Counted, SpentInAllUpTo}
use Rattle.fg_wave.specs.declared.told.Told.{Told}
use Rattle.fg_wave.specs.Waves.{SpentAsTold}

-- what is said of all that some counted holds with others, who counted nothing more
told-with_rest : (blocks : Blocks) (list : List ℕ) (old new rest : List Counted) (told : Told) → SpentAsTold blocks list old new told
    → SpentAsTold blocks list (old ++ rest) (new ++ rest) told
told-with_rest blocks list old new rest told spent =
    let runs : Counted → ℕ = λ one. one.runs in
    let entries : Counted → ℕ = λ one. one.entries in
    let hits : Counted → ℕ = λ one. one.hits in
    record {
      runs = omega (arith, spent.runs, sum_by-append runs old rest, sum_by-append runs new rest);
      entries = omega (arith, spent.entries, sum_by-append entries old rest, sum_by-append entries new rest);
      hits = λ none. omega (arith, spent.hits none, sum_by-append hits old rest, sum_by-append hits new rest);
    }

few-with_rest : (blocks : Blocks) (list : List ℕ) (old new rest : List Counted) → SpentInAllUpTo blocks list old new
    → SpentInAllUpTo blocks list (old ++ rest) (new ++ rest)
few-with_rest blocks list old new rest few =
    let runs : Counted → ℕ = λ one. one.runs in
    let entries : Counted → ℕ = λ one. one.entries in
    record {
      few_runs = omega (arith, few.few_runs, sum_by-append runs old rest, sum_by-append runs new rest);
      few_entries = omega (arith, few.few_entries, sum_by-append entries old rest, sum_by-append entries new rest);
    }

-- the first `count` of all slots were lent
module _ {K F : Type 0} (spent : K → Counted) (slots lent now : List (Slot K F)) (count : ℕ) (is : now ≡ lent ++ drop count slots) where
  abbrev rest : List Counted
  rest = counted_in spent (drop count slots)

  split : (first behind : List (Slot K F)) → counted_in spent (first ++ behind) ≡ counted_in spent first ++ counted_in spent behind
  split first behind = map-append (λ (slot : Slot K F). spent slot.kept) first behind

  before : counted_in spent (take count slots) ++ rest ≡ counted_in spent slots
  before = sym (split (take count slots) (drop count slots)) ∙ ap (counted_in spent) (take-append-drop count slots)

  after : counted_in spent lent ++ rest ≡ counted_in spent now
  after = sym (split lent (drop count slots)) ∙ ap (counted_in spent) (sym is)

  pub told_by_lent : (blocks : Blocks) (list : List ℕ) (told : Told) → SpentAsTold blocks list (counted_in spent (take count slots)) (counted_in spent lent) told
      → SpentAsTold blocks list (counted_in spent slots) (counted_in spent now) told
  told_by_lent blocks list told some =
      let all = told-with_rest blocks list (counted_in spent (take count slots)) (counted_in spent lent) rest told some in
      subst (λ (l : List Counted). SpentAsTold blocks list l (counted_in spent now) told) before
      (subst (λ (l : List Counted). SpentAsTold blocks list (counted_in spent (take count slots) ++ rest) l told) after all)

  pub few_by_lent : (blocks : Blocks) (list : List ℕ) → SpentInAllUpTo blocks list (counted_in spent (take count slots)) (counted_in spent lent)
      → SpentInAllUpTo blocks list (counted_in spent slots) (counted_in spent now)
  few_by_lent blocks list some =
      let all = few-with_rest blocks list (counted_in spent (take count slots)) (counted_in spent lent) rest some in
      subst (λ (l : List Counted). SpentInAllUpTo blocks list l (counted_in spent now)) before
      (subst (λ (l : List Counted). SpentInAllUpTo blocks list (counted_in spent (take count slots) ++ rest) l) after all)

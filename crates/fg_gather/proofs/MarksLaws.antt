-- Marks that are made, made again, and looked at.
use Rattle.std.proofs.Common.{◌≡◌, ℕ, ◌+◌, ◌-◌, ◌*◌, ◌<◌, ◌≤◌, Bool, true, false, List, None, Option, length, get_or, min, refl, sym, ap, ◌∙◌, arith}
use Rattle.std.proofs.lemmas.List.{get_or_default}
use Rattle.std.proofs.lemmas.List.Edits.{get_or-between, length-between}
use Rattle.std.proofs.lemmas.List.Folds.{Any-from_list_any, list_any_at, list_any_none}
use Rattle.std.specs.Prelude.{All}
use Rattle.std.specs.List.{between, list_any}
use Rattle.fg_base.specs.declared.plain.VState.{VState}
use Rattle.fg_gather.specs.Arrivals.{came_to}
use Rattle.fg_gather.specs.Gather.{KeepsOthers}
use Rattle.fg_gather.specs.Marks.{AreMarks, HasAwake, IsMark}
use Rattle.fg_model.specs.Iteration.{state_at}
use Rattle.fg_model.specs.Program.{Rules}
use Rattle.fg_part.proofs.PartMapLaws.{block_below, in_its_block}
use Rattle.fg_part.specs.declared.part_map.PartMap.{PartMap}
use Rattle.fg_part.specs.PartMap.{StandsIn, block_of, block_size, block_total}

abbrev blank : VState
blank = record { a = 0; b = 0; c = 0 }

bool_apart : true ≡ false → ⊥
bool_apart is = cc

-- what is not true is false
not_true : (b : Bool) → (b ≡ true → ⊥) → b ≡ false
not_true true no_such = absurd (no_such refl)
not_true false no_such = refl

-- the mark of a block is whether one of its states is awake
module _ (P : Rules) (map : PartMap) (phase : ℕ) (states : List VState) (b first end : ℕ) (whole : length states ≡ map.n)
    (begins : first ≡ b * block_size map) (ends : end ≡ min (length states) (first + block_size map)) (inside : first ≤ length states) where
  abbrev block : List VState
  block = between first end states

  size : length block ≡ end - first
  size = length-between states first end (omega (arith, ends))

  at : (k : ℕ) → first + k < end → get_or block k blank ≡ state_at states (first + k)
  at k below = get_or-between states first end k blank below

  some_awake : list_any (P.wake phase) block ≡ true → HasAwake P map phase states b
  some_awake is =
      let found = Any-from_list_any (P.wake phase) block is in
      let k = found.0 in
      let below : first + k < end = omega (arith, found.2, size) in
      record {
        vertex = first + k;
        stands = record { vertex = omega (arith, below, ends, whole); after = omega (arith, begins); before = omega (arith, below, ends, begins) };
        awake =
            ap (P.wake phase) (sym (at k below)) ∙ ap (P.wake phase) (get_or_default block k blank found.1 found.2 ∙ found.3) ∙ found.4;
      }

  none_awake : list_any (P.wake phase) block ≡ false → (v : ℕ) → StandsIn map b v → P.wake phase (state_at states v) ≡ false
  none_awake is v stands =
      let k = v - first in
      let there : first + k ≡ v = omega (arith, begins, stands.after) in
      let below : first + k < end = omega (arith, there, begins, ends, stands.vertex, stands.before, whole) in
      not_true (P.wake phase (state_at states v)) (λ awake.
      let here : P.wake phase (get_or block k blank) ≡ true = ap (P.wake phase) (at k below ∙ ap (state_at states) there) ∙ awake in
      bool_apart (sym (list_any_at (P.wake phase) block k blank (omega (arith, below, size)) here) ∙ is))

  pub mark_is : (mark : Bool) → mark ≡ list_any (P.wake phase) block → IsMark P map phase states b mark
  mark_is mark is = record {
    set = λ set. some_awake (sym is ∙ set);
    clear = λ clear. none_awake (sym is ∙ clear);
  }

-- a block without a mark to which nothing came has still nobody awake
pub stays_clear : (P : Rules) (map : PartMap) (phase : ℕ) (parts : List (List (Option ℕ))) (old new : List VState) (b : ℕ) (mark : Bool) → mark ≡ false
    → ((v : ℕ) → StandsIn map b v → came_to map parts v ≡ None) → IsMark P map phase old b mark → KeepsOthers P map phase parts old new
    → IsMark P map phase new b mark
stays_clear P map phase parts old new b mark clear none was keeps = record {
  set = λ set. absurd (bool_apart (sym set ∙ clear));
  clear = λ _ v stands.
      let asleep : P.wake phase (state_at old v) ≡ false = was.clear clear v stands in
      ap (P.wake phase) (keeps v stands.vertex asleep (none v stands)) ∙ asleep;
}

-- a vertex is active exactly where a block has a mark
pub some_marked : (P : Rules) (map : PartMap) (phase : ℕ) (states : List VState) (marks : List Bool) → length states ≡ map.n → AreMarks P map phase states marks
    → list_any (λ (mark : Bool). mark) marks ≡ list_any (P.wake phase) states
some_marked P map phase states marks whole right = by_marks (list_any (λ (mark : Bool). mark) marks) refl
  where
    by_marks : (some : Bool) → list_any (λ (mark : Bool). mark) marks ≡ some → some ≡ list_any (P.wake phase) states
    by_marks true is =
        let found = Any-from_list_any (λ (mark : Bool). mark) marks is in
        let below : found.0 < block_total map = omega (arith, found.2, right.one_each) in
        let set : get_or marks found.0 false ≡ true = get_or_default marks found.0 false found.1 found.2 ∙ found.3 ∙ found.4 in
        let one = (right.each found.0 below).set set in
        sym (list_any_at (P.wake phase) states one.vertex blank (omega (arith, one.stands.vertex, whole)) one.awake)
    by_marks false is =
        let asleep : All (λ (s : VState). P.wake phase s ≡ false) states =
        λ v d below.
        let vertex : v < map.n = omega (arith, below, whole) in
        let b = block_of map v in
        let within = block_below map v vertex in
        let clear : get_or marks b false ≡ false =
        not_true (get_or marks b false) (λ set. bool_apart (sym (list_any_at (λ (mark : Bool). mark) marks b false (omega (arith, within, right.one_each)) set) ∙ is)) in
        ap (P.wake phase) (get_or_default states v d blank below) ∙ (right.each b within).clear clear v (in_its_block map v vertex) in
        sym (list_any_none (P.wake phase) states asleep)

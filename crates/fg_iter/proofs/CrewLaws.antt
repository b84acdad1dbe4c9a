-- What the workers of a crew counted in an iteration, and how its tally rises.
use Rattle.std.proofs.Common.{◌≡◌, ℕ, ◌+◌, ◌<◌, ◌≤◌, ◌^◌, Bool, Result, List, [], ap, subst, sym, ◌∙◌, arith}
use Rattle.std.proofs.lemmas.List.Elements.{All-map, All-weaker}
use Rattle.std.specs.Prelude.{All, IfOk, OnOk, length}
use Rattle.std.specs.List.{sum_by}
use Rattle.fg_crew.proofs.ListLaws.{sum_by-map}
use Rattle.fg_crew.specs.declared.slot.Slot.{Slot}
use Rattle.fg_gather.specs.Marks.{AreMarks}
use Rattle.fg_iter.proofs.EndLaws.{has_raised, has_visited, none_unsettled, room_for_list}
use Rattle.fg_iter.proofs.JoinedLaws.{active_few, needed_few}
use Rattle.fg_iter.specs.Crew.{IsSettled, counted_in, hits_in}
use Rattle.fg_iter.specs.Marked.{marked_blocks}
use Rattle.fg_iter.specs.Start.{HasRaised, Start, blocks_at, ended_as, visits_in}
use Rattle.fg_model.specs.Graph.{IsWithinLimits}
use Rattle.fg_task.specs.declared.block_result.WorkFault.{WorkFault}
use Rattle.fg_task.specs.Spending.{Counted, SpentInAllUpTo}
use Rattle.fg_wave.specs.declared.told.Told.{Told}
use Rattle.fg_wave.specs.Waves.{HasRoomForList, SpentAsTold}

-- before the blocks were run nothing was counted that isn't in the tally; `now` are the slots after that
module _ (start : Start) (marks : List Bool) (right : AreMarks start.rules start.map start.phase start.states marks) (whole : length start.states ≡ start.map.n)
    (list : List ℕ) (all_marked : list ≡ marked_blocks marks) {K F : Type 0} (spent : K → Counted) (old now : List (Slot K F))
    (settled : All (λ (slot : Slot K F). IsSettled (spent slot.kept)) old) where
  abbrev IsFew : Type 0
  IsFew = SpentInAllUpTo (blocks_at start) list (counted_in spent old) (counted_in spent now)

  abbrev AreTold : Result Told (WorkFault F) → Type 0
  AreTold answer = IfOk answer (λ (told : Told). SpentAsTold (blocks_at start) list (counted_in spent old) (counted_in spent now) told)

  abbrev runs_in : ℕ
  runs_in = sum_by (λ (slot : Slot K F). (spent slot.kept).runs) now

  abbrev entries_in : ℕ
  entries_in = sum_by (λ (slot : Slot K F). (spent slot.kept).entries) now

  each_settled : All IsSettled (counted_in spent old)
  each_settled = All-map IsSettled (λ (slot : Slot K F). spent slot.kept) old settled

  -- a sum over what was counted is the sum over the slots
  by_slot : (of : Counted → ℕ) (slots : List (Slot K F)) → sum_by of (counted_in spent slots) ≡ sum_by (λ (slot : Slot K F). of (spent slot.kept)) slots
  by_slot of slots = sum_by-map of (λ (slot : Slot K F). spent slot.kept) slots

  -- each worker has room for all listed blocks
  pub rooms_for_list : IsWithinLimits start.lists.graph → start.map.n ≡ start.lists.graph.n
      → All (λ (slot : Slot K F). HasRoomForList (blocks_at start) list (spent slot.kept)) old
  rooms_for_list limits vertices =
      All-weaker (λ (slot : Slot K F). IsSettled (spent slot.kept)) (λ (slot : Slot K F). HasRoomForList (blocks_at start) list (spent slot.kept))
      (λ slot none. room_for_list start marks right whole list all_marked limits vertices (spent slot.kept) none) old settled

  -- the tally has room for what they counted
  pub room_of_runs : IsFew → (runs : ℕ) → runs + 2 ^ 30 < 2 ^ 64 → runs + runs_in < 2 ^ 64
  room_of_runs few runs room =
      let none = none_unsettled (λ (one : Counted). one.runs) (counted_in spent old) (λ k d below. (each_settled k d below).runs) in
      omega (arith, room, none, few.few_runs, by_slot (λ (one : Counted). one.runs) now, active_few start marks right whole list all_marked)

  pub room_of_entries : IsWithinLimits start.lists.graph → start.map.n ≡ start.lists.graph.n → IsFew → (entries : ℕ) → entries + 2 ^ 33 < 2 ^ 64 → entries + entries_in < 2 ^ 64
  room_of_entries limits vertices few entries room =
      let none = none_unsettled (λ (one : Counted). one.entries) (counted_in spent old) (λ k d below. (each_settled k d below).entries) in
      omega (arith, room, none, few.few_entries, by_slot (λ (one : Counted). one.entries) now, needed_few start marks right whole list all_marked limits vertices)

  -- once moved into the tally, both counts rise as they should
  pub tally_raised : (answer : Result Told (WorkFault F)) → IsFew → AreTold answer → (runs entries new_runs new_entries : ℕ)
      → new_runs ≡ runs + runs_in → new_entries ≡ entries + entries_in → HasRaised start (ended_as answer) runs entries new_runs new_entries
  tally_raised answer few told runs entries new_runs new_entries is_runs is_entries =
      has_raised start marks right whole list all_marked answer (counted_in spent old) (counted_in spent now) runs entries new_runs new_entries each_settled few told
      (is_runs ∙ ap (λ (n : ℕ). runs + n) (sym (by_slot (λ (one : Counted). one.runs) now)))
      (is_entries ∙ ap (λ (n : ℕ). entries + n) (sym (by_slot (λ (one : Counted). one.entries) now)))

  -- and the pages of the needed lists were visited, whatever is moved then
  pub pages_visited : (answer : Result Told (WorkFault F)) (last : List (Slot K F)) → start.lists.visits start.rules [] ≡ 0 → AreTold answer
      → hits_in spent last ≡ hits_in spent now → OnOk (ended_as answer) (hits_in spent old + visits_in start ≤ hits_in spent last)
  pages_visited answer last none told same =
      let hits : Counted → ℕ = λ one. one.hits in
      let visits = has_visited start marks right whole list all_marked answer (counted_in spent old) (counted_in spent now) none told in
      subst (λ (n : ℕ). OnOk (ended_as answer) (hits_in spent old + visits_in start ≤ n)) (by_slot hits now ∙ sym same)
      (subst (λ (n : ℕ). OnOk (ended_as answer) (n + visits_in start ≤ sum_by hits (counted_in spent now))) (by_slot hits old) visits)

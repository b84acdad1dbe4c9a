-- The workers of a run, and what they work on.
use Rattle.std.specs.Prelude.{◌≡◌, ℕ, ◌+◌, ◌<◌, ◌≤◌, Bool, Some, List, [], All, IfSome, OnOk, Result, length, map as each}
use Rattle.std.specs.List.{sum_by}
use Rattle.fg_base.specs.declared.limits.TheConstants.{MAX_WORKERS}
use Rattle.fg_crew.specs.declared.slot.Slot.{Slot}
use Rattle.fg_gather.specs.Arrivals.{HasCome}
use Rattle.fg_gather.specs.Marks.{AreMarks}
use Rattle.fg_model.specs.declared.iteration.Counts.{Counts}
use Rattle.fg_model.specs.Program.{Rules}
use Rattle.fg_model.specs.Run.{is_some_active}
use Rattle.fg_part.specs.declared.part_map.PartMap.{PartMap}
use Rattle.fg_part.specs.PartMap.{block_total}
use Rattle.fg_task.specs.Spending.{Counted}
use Rattle.fg_iter.specs.declared.crew.Crew.{Crew}
use Rattle.fg_iter.specs.declared.unfinished.Unfinished.{Unfinished}
use Rattle.fg_iter.specs.Lists.{Lists}
use Rattle.fg_iter.specs.Start.{Start, visits_in}

-- the rules of its program
abbrev pub rules_in : {P K F : Type 0} → (P → Rules) → Crew P K F → Rules
rules_in rules_of crew = rules_of crew.inboxes.program

-- the iteration that starts on its states
abbrev pub start_of : {P K F : Type 0} → (P → Rules) → Lists → ℕ → Crew P K F → Start
start_of rules_of lists phase crew = record {
  rules = rules_in rules_of crew;
  lists = lists;
  map = crew.inboxes.map;
  phase = phase;
  states = crew.states.items;
}

-- no run and no entry is counted that wasn't moved into the tally
pub record IsSettled (spent : Counted) : Type 0 where
  pub runs : spent.runs ≡ 0
  pub entries : spent.entries ≡ 0

-- how many pages all workers found in the cache
abbrev pub hits_in : {K F : Type 0} → (K → Counted) → List (Slot K F) → ℕ
hits_in spent slots = sum_by (λ (slot : Slot _ _). (spent slot.kept).hits) slots

-- the marks of a phase can be made: what they are made of is there, and if there are some they are right
pub record CanMark {P K F : Type 0} (rules_of : P → Rules) (crew : Crew P K F) : Type 0 where
  pub workers : 0 < length crew.slots.items
  pub states : length crew.states.items ≡ crew.inboxes.map.n
  pub one_each : length crew.marks.items ≡ block_total crew.inboxes.map
  pub marks : IfSome crew.marked (λ (phase : ℕ). AreMarks (rules_in rules_of crew) crew.inboxes.map phase crew.states.items crew.marks.items)

-- the marks of this phase were made, and nothing else; the answer says whether some vertex is active
pub record HasMarked {P K F : Type 0} (rules_of : P → Rules) (phase : ℕ) (result : Bool) (old new : Crew P K F) : Type 0 where
  pub value : result ≡ is_some_active (rules_in rules_of old) phase old.states.items
  pub marks : AreMarks (rules_in rules_of new) new.inboxes.map phase new.states.items new.marks.items
  pub rest : new ≡ record old { marks = new.marks; marked = Some phase }

-- what the workers counted
abbrev pub counted_in : {K F : Type 0} → (K → Counted) → List (Slot K F) → List Counted
counted_in spent slots = each (λ (slot : Slot _ _). spent slot.kept) slots

-- Between two iterations: the marks, if they were made for a phase, are those of the states; each worker has what it was lent, and
-- counted nothing that isn't in the tally; and the inboxes are empty.
pub record IsCrew {P K F : Type 0} (rules_of : P → Rules) (lends : PartMap → K → Type 0) (spent : K → Counted) (crew : Crew P K F) : Type 0 where
  pub one_each : length crew.marks.items ≡ block_total crew.inboxes.map
  pub marks : IfSome crew.marked (λ (phase : ℕ). AreMarks (rules_in rules_of crew) crew.inboxes.map phase crew.states.items crew.marks.items)
  pub workers : (0 < length crew.slots.items) × (length crew.slots.items ≤ MAX_WORKERS)
  pub lent : All (λ (slot : Slot K F). lends crew.inboxes.map slot.kept) crew.slots.items
  pub settled : All (λ (slot : Slot K F). IsSettled (spent slot.kept)) crew.slots.items
  pub empty : HasCome (rules_in rules_of crew) crew.inboxes.map crew.inboxes.parts []

-- the same program, blocks and workers
pub record IsSameCrew {P K F : Type 0} (old new : Crew P K F) : Type 0 where
  pub program : new.inboxes.program ≡ old.inboxes.program
  pub map : new.inboxes.map ≡ old.inboxes.map
  pub workers : length new.slots.items ≡ length old.slots.items

-- a finished iteration visited the pages of its needed lists
abbrev pub HasVisited : {P K F : Type 0} → (K → Counted) → Start → Result Counts (Unfinished F) → Crew P K F → Crew P K F → Type 0
HasVisited spent start result old new = OnOk result (hits_in spent old.slots.items + visits_in start ≤ hits_in spent new.slots.items)

-- A crew's iterations as an engine's: what each asks, what came of it, and what was visited over all.
use Rattle.std.specs.Prelude.{◌≡◌, ℕ, ◌+◌, ◌^◌, ◌<◌, ◌≤◌, Bool, true, false, Option, None, Some, Result, Ok, Err, List, length}
use Rattle.std.specs.List.{sum_by}
use denote.Ref.{MutBor}
use Rattle.fg_model.specs.declared.iteration.Counts.{Counts}
use Rattle.fg_model.specs.declared.iteration.IterFault.{IterFault}
use Rattle.fg_model.specs.declared.run.End.{End}
use Rattle.fg_model.specs.declared.run.RunFault.{RunFault}
use Rattle.fg_model.specs.Graph.{IsWithinLimits}
use Rattle.fg_model.specs.Iteration.{Begun}
use Rattle.fg_model.specs.Program.{Rules}
use Rattle.fg_part.specs.declared.part_map.PartMap.{PartMap}
use Rattle.fg_task.specs.Spending.{Counted}
use Rattle.fg_iter.specs.declared.crew.Crew.{Crew}
use Rattle.fg_iter.specs.declared.unfinished.Unfinished.{Unfinished}
use Rattle.fg_iter.specs.Crew.{HasMarked, HasVisited, IsCrew, IsSameCrew, hits_in, rules_in, start_of}
use Rattle.fg_iter.specs.Lists.{Lists, visits_by_blocks}
use Rattle.fg_iter.specs.Start.{HasEnded, HasRaised, MayBegin}

-- an iteration may be run by the crew, and counted
pub record MayIterate {P K F : Type 0} (rules_of : P → Rules) (lists : Lists) (allows : Rules → Begun → Type 0) (lends : PartMap → K → Type 0)
    (spent : K → Counted) (phase : ℕ) (crew : Crew P K F) (runs entries : ℕ) : Type 0 where
  pub may_run : MayBegin allows (start_of rules_of lists phase crew)
  pub is_crew : IsCrew rules_of lends spent crew
  pub room_of_runs : runs + 2 ^ 30 < 2 ^ 64
  pub room_of_entries : entries + 2 ^ 33 < 2 ^ 64

-- what came of it
pub record CrewIterated {P K F : Type 0} (rules_of : P → Rules) (lists : Lists) (lends : PartMap → K → Type 0) (spent : K → Counted)
    (caused : F → Type 0) (phase : ℕ) (result : Result Counts (Unfinished F)) (old new : Crew P K F) (runs entries new_runs new_entries : ℕ) : Type 0 where
  pub ended : HasEnded caused (start_of rules_of lists phase old) result new.states.items
  pub raised : HasRaised (start_of rules_of lists phase old) result runs entries new_runs new_entries
  pub visited : HasVisited spent (start_of rules_of lists phase old) result old new
  pub is_crew : IsCrew rules_of lends spent new
  pub same : IsSameCrew old new

-- this call iterates, on whatever has a crew
pub record Iterates {P K F T C : Type 0} (rules_of : P → Rules) (lists : Lists) (allows : Rules → Begun → Type 0) (lends : PartMap → K → Type 0)
    (spent : K → Counted) (caused : F → Type 0) (runs entries : T → ℕ) (crew_of : C → Crew P K F)
    (pre : ℕ → MutBor C → MutBor T → Type 0) (post : ℕ → MutBor C → MutBor T → Result Counts (Unfinished F) → MutBor C → MutBor T → Type 0)
    (first : Crew P K F) : Type 0 where
  pub may : (phase : ℕ) (crew : MutBor C) (tally : MutBor T) → phase < 2 ^ 64 → IsSameCrew first (crew_of crew.now)
      → MayIterate rules_of lists allows lends spent phase (crew_of crew.now) (runs tally.now) (entries tally.now) → pre phase crew tally
  pub does : (phase : ℕ) (crew crew_then : MutBor C) (tally tally_then : MutBor T) (result : Result Counts (Unfinished F))
      → post phase crew tally result crew_then tally_then
      → CrewIterated rules_of lists lends spent caused phase result (crew_of crew.now) (crew_of crew_then.now)
      (runs tally.now) (entries tally.now) (runs tally_then.now) (entries tally_then.now)

-- this call tells whether some vertex is active, of whatever has a crew
pub record TellsWhetherActive {P K F C : Type 0} (rules_of : P → Rules) (lends : PartMap → K → Type 0) (spent : K → Counted) (crew_of : C → Crew P K F)
    (pre : ℕ → MutBor C → Type 0) (post : ℕ → MutBor C → Bool → MutBor C → Type 0) : Type 0 where
  pub may : (phase : ℕ) (crew : MutBor C) → phase < 2 ^ 64 → IsCrew rules_of lends spent (crew_of crew.now)
      → length (crew_of crew.now).states.items ≡ (crew_of crew.now).inboxes.map.n → pre phase crew
  pub does : (phase : ℕ) (crew crew_then : MutBor C) (result : Bool) → post phase crew result crew_then
      → HasMarked rules_of phase result (crew_of crew.now) (crew_of crew_then.now)

-- the fault of an engine that an unfinished iteration is, and the fault of the runner that is kept
abbrev pub iter_fault_of : {F : Type 0} → Unfinished F → IterFault
iter_fault_of Unfinished.Memory = IterFault.Memory
iter_fault_of (Unfinished.Fault fault) = IterFault.Drive 0
iter_fault_of (Unfinished.BadEdge bad) = IterFault.BadEdge bad

abbrev pub fault_kept : {F : Type 0} → Unfinished F → Option F → Option F
fault_kept Unfinished.Memory kept = kept
fault_kept (Unfinished.Fault fault) kept = Some fault
fault_kept (Unfinished.BadEdge bad) kept = kept

-- on how many pages the needed lists of iterations stand, taken block by block
abbrev pub visits_of_all : Lists → Rules → PartMap → List Begun → ℕ
visits_of_all lists P map begun = sum_by (λ (one : Begun). visits_by_blocks lists P map one.active) begun

-- The crew is the same; and where none of these iterations was cut short, the pages of their needed lists were found.
pub record HasDone {P K F : Type 0} (lists : Lists) (spent : K → Counted) (rules : Rules) (begun : List Begun) (cut_before cut : Bool)
    (old new : Crew P K F) : Type 0 where
  pub same : IsSameCrew old new
  pub whole : cut ≡ false → cut_before ≡ false
  pub hits : cut ≡ false → hits_in spent old.slots.items + visits_of_all lists rules old.inboxes.map begun ≤ hits_in spent new.slots.items

-- the crew's own conditions, whatever its states are: it is of these rules and of the graph's vertices, and what it is run by can be called
pub record IsReady {P K F T C : Type 0} (rules_of : P → Rules) (lists : Lists) (allows : Rules → Begun → Type 0) (lends : PartMap → K → Type 0)
    (spent : K → Counted) (caused : F → Type 0) (runs entries : T → ℕ) (crew_of : C → Crew P K F)
    (active_pre : ℕ → MutBor C → Type 0) (active_post : ℕ → MutBor C → Bool → MutBor C → Type 0)
    (pre : ℕ → MutBor C → MutBor T → Type 0) (post : ℕ → MutBor C → MutBor T → Result Counts (Unfinished F) → MutBor C → MutBor T → Type 0)
    (rules : Rules) (crew : C) : Type 0 where
  pub limits : IsWithinLimits lists.graph
  pub vertices : (crew_of crew).inboxes.map.n ≡ lists.graph.n
  pub program : rules_in rules_of (crew_of crew) ≡ rules
  pub is_crew : IsCrew rules_of lends spent (crew_of crew)
  pub can_tell : TellsWhetherActive rules_of lends spent crew_of active_pre active_post
  pub can_iterate : Iterates rules_of lists allows lends spent caused runs entries crew_of pre post (crew_of crew)

-- the answer of a run, but an end only where no iteration was cut short
abbrev pub whole_answer : Bool → Result End RunFault → Result End RunFault
whole_answer false answer = answer
whole_answer true (Ok end) = Err RunFault.Memory
whole_answer true (Err fault) = Err fault

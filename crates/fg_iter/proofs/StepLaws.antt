-- One iteration by a crew, step by step: its marks are made, its blocks run, what was counted is settled, and it ends.
use Rattle.std.proofs.Common.{◌≡◌, ℕ, ◌<◌, ◌≤◌, ◌++◌, Bool, Option, Some, List, [], drop, length, take, ap, subst, sym, ◌∙◌}
use Rattle.std.proofs.lemmas.List.{take_at}
use Rattle.std.specs.Global.{Vec}
use Rattle.std.specs.Prelude.{All, IfSome}
use Rattle.fg_base.specs.declared.limits.TheConstants.{MAX_WORKERS}
use Rattle.fg_base.specs.declared.plain.VState.{VState}
use Rattle.fg_crew.specs.declared.slot.Slot.{Slot}
use Rattle.fg_gather.specs.Arrivals.{HasCome}
use Rattle.fg_gather.specs.Marks.{AreMarks}
use Rattle.fg_iter.specs.declared.crew.Crew.{Crew}
use Rattle.fg_iter.specs.Crew.{IsCrew, IsSameCrew, IsSettled, rules_in, start_of}
use Rattle.fg_iter.specs.Lists.{Lists}
use Rattle.fg_iter.specs.Marked.{marked_blocks}
use Rattle.fg_iter.specs.Start.{MayBegin, Start}
use Rattle.fg_model.specs.Iteration.{Begun}
use Rattle.fg_model.specs.Program.{Rules}
use Rattle.fg_part.specs.declared.part_map.PartMap.{PartMap}
use Rattle.fg_task.specs.Spending.{Counted}

-- what a vector has after it was lent whole
pub whole-again : {X : Type 0} (new old : List X) (len : ℕ) → length new ≡ len → take len (new ++ drop (length new) old) ≡ new
whole-again new old len long = take_at new (drop (length new) old) len long

abbrev pub started : Lists → ℕ → Rules → PartMap → List VState → Start
started lists phase rules map states = record { rules = rules; lists = lists; map = map; phase = phase; states = states }

-- the same iteration starts on the same program, blocks and states
pub same_start : {P K F : Type 0} (rules_of : P → Rules) (lists : Lists) (phase : ℕ) (crew : Crew P K F) (program : P) (map : PartMap) (states : List VState)
    → program ≡ crew.inboxes.program → map ≡ crew.inboxes.map → states ≡ crew.states.items
    → started lists phase (rules_of program) map states ≡ start_of rules_of lists phase crew
same_start {P = P} rules_of lists phase crew program map states is_program is_map is_states =
    ap (λ (other : P). started lists phase (rules_of other) map states) is_program
    ∙ ap (λ (other : PartMap). started lists phase (rules_in rules_of crew) other states) is_map
    ∙ ap (λ (others : List VState). started lists phase (rules_in rules_of crew) crew.inboxes.map others) is_states

-- the marks of an iteration's blocks are right, and the blocks with a mark are listed
pub record HasListed (start : Start) (marks : List Bool) (list : List ℕ) : Type 0 where
  pub right : AreMarks start.rules start.map start.phase start.states marks
  pub whole : length start.states ≡ start.map.n
  pub all_marked : list ≡ marked_blocks marks

-- a crew, and what it is once its marks are made
module _ {P K F : Type 0} (rules_of : P → Rules) (lists : Lists) (phase : ℕ) (old marked : Crew P K F)
    (made : marked ≡ record old { marks = marked.marks; marked = Some phase }) where
  -- what holds of the iteration and the slots holds of those before
  pub at_first : (Q : Start → List (Slot K F) → Type 0) → Q (start_of rules_of lists phase marked) marked.slots.items
      → Q (start_of rules_of lists phase old) old.slots.items
  at_first Q holds = subst (λ (crew : Crew P K F). Q (start_of rules_of lists phase crew) crew.slots.items) made holds

  -- and the other way
  pub once_marked : (Q : Start → List (Slot K F) → Type 0) → Q (start_of rules_of lists phase old) old.slots.items
      → Q (start_of rules_of lists phase marked) marked.slots.items
  once_marked Q holds = subst (λ (crew : Crew P K F). Q (start_of rules_of lists phase crew) crew.slots.items) (sym made) holds

  pub has_listed : (allows : Rules → Begun → Type 0) → MayBegin allows (start_of rules_of lists phase old)
      → AreMarks (rules_in rules_of marked) marked.inboxes.map phase marked.states.items marked.marks.items
      → (read : List Bool) → read ≡ marked.marks.items → (list : List ℕ) → list ≡ marked_blocks read
      → HasListed (start_of rules_of lists phase old) marked.marks.items list
  has_listed allows may right read is_read list all_marked = record {
    right = at_first (λ start slots. AreMarks start.rules start.map start.phase start.states marked.marks.items) right;
    whole = may.are_states.state_count ∙ sym may.vertices;
    all_marked = all_marked ∙ ap marked_blocks is_read;
  }

  -- the same iteration starts on what the crew is after its blocks were run
  pub ran_start : (ran : Crew P K F) → IsSameCrew marked ran → ran.states ≡ marked.states → start_of rules_of lists phase ran ≡ start_of rules_of lists phase old
  ran_start ran same kept = same_start rules_of lists phase old ran.inboxes.program ran.inboxes.map ran.states.items
      (same.program ∙ ap (λ (crew : Crew P K F). crew.inboxes.program) made)
      (same.map ∙ ap (λ (crew : Crew P K F). crew.inboxes.map) made)
      (ap (λ (states : Vec VState). states.items) kept ∙ ap (λ (crew : Crew P K F). crew.states.items) made)

-- a crew is one again after an iteration: `ran` is what it was before its end, with these slots
module _ {P K F : Type 0} (rules_of : P → Rules) (lends : PartMap → K → Type 0) (spent : K → Counted) (phase : ℕ) (ran last : Crew P K F)
    (slots : List (Slot K F)) (program : last.inboxes.program ≡ ran.inboxes.program) (map : last.inboxes.map ≡ ran.inboxes.map)
    (same_slots : last.slots.items ≡ slots) where
  -- what holds of the program and the blocks
  still : (Q : Rules → PartMap → Type 0) → Q (rules_in rules_of ran) ran.inboxes.map → Q (rules_in rules_of last) last.inboxes.map
  still Q holds = subst (λ (blocks : PartMap). Q (rules_in rules_of last) blocks) (sym map) (subst (λ (other : P). Q (rules_of other) ran.inboxes.map) (sym program) holds)

  pub crew_again : last.marked ≡ Some phase
      → AreMarks (rules_in rules_of ran) ran.inboxes.map phase last.states.items last.marks.items
      → HasCome (rules_in rules_of ran) ran.inboxes.map last.inboxes.parts []
      → (0 < length slots) × (length slots ≤ MAX_WORKERS)
      → All (λ (slot : Slot K F). lends ran.inboxes.map slot.kept) slots → All (λ (slot : Slot K F). IsSettled (spent slot.kept)) slots
      → IsCrew rules_of lends spent last
  crew_again is_marked right empty workers lent settled =
      let marks = still (λ rules blocks. AreMarks rules blocks phase last.states.items last.marks.items) right in
      record {
        one_each = marks.one_each;
        marks = subst (λ (one : Option ℕ). IfSome one (λ (of : ℕ). AreMarks (rules_in rules_of last) last.inboxes.map of last.states.items last.marks.items)) (sym is_marked) marks;
        workers = subst (λ (all : List (Slot K F)). (0 < length all) × (length all ≤ MAX_WORKERS)) (sym same_slots) workers;
        lent = subst (λ (all : List (Slot K F)). All (λ (slot : Slot K F). lends last.inboxes.map slot.kept) all) (sym same_slots)
            (still (λ rules blocks. All (λ (slot : Slot K F). lends blocks slot.kept) slots) lent);
        settled = subst (λ (all : List (Slot K F)). All (λ (slot : Slot K F). IsSettled (spent slot.kept)) all) (sym same_slots) settled;
        empty = still (λ rules blocks. HasCome rules blocks last.inboxes.parts []) empty;
      }

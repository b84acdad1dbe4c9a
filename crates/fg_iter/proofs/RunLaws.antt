-- What is said of an engine's run, of the run of the crew in it: its answer is the engine's, but an end is want of memory where an iteration was cut short.
use Rattle.std.proofs.Common.{◌≡◌, ℕ, ◌+◌, ◌≤◌, Bool, true, false, Option, Result, Ok, Err, List, [], take, length, refl, ap, sym, subst, ◌∙◌, arith}
use Rattle.std.specs.Prelude.{◌<◌, None, All, IfOk, IfSome, OnOk}
use Rattle.std.proofs.lemmas.List.{take_all}
use Rattle.fg_base.specs.declared.limits.TheConstants.{MAX_WORKERS}
use Rattle.fg_base.specs.declared.plain.VState.{VState}
use Rattle.fg_base.specs.Told.{grown}
use Rattle.fg_model.specs.declared.run.End.{End}
use Rattle.fg_model.specs.declared.run.RunFault.{RunFault}
use Rattle.fg_model.specs.declared.watch.IterLine.{IterLine}
use Rattle.fg_crew.specs.declared.slot.Slot.{Slot}
use Rattle.fg_gather.specs.Arrivals.{HasCome}
use Rattle.fg_gather.specs.Marks.{AreMarks}
use Rattle.fg_model.specs.declared.graph.Graph.{Graph}
use Rattle.fg_model.specs.Program.{Rules}
use Rattle.fg_model.proofs.RunLemmas.{tally_none, tally_whole}
use Rattle.fg_model.specs.Engine.{IsWhole, ShownAs, TallyRoseWith, TellsEnd, TellsFaults, Went}
use Rattle.fg_model.specs.Iteration.{Begun}
use Rattle.fg_model.specs.Run.{Finished, Run}
use Rattle.fg_model.specs.Watch.{ShownAll, told_of}
use Rattle.fg_part.specs.declared.part_map.PartMap.{PartMap}
use Rattle.fg_part.specs.PartMap.{block_total}
use Rattle.fg_task.specs.Spending.{Counted}
use Rattle.fg_iter.specs.declared.crew.Crew.{Crew}
use Rattle.fg_iter.specs.Crew.{IsCrew, IsSettled, hits_in, rules_in}
use Rattle.fg_iter.specs.Engine.{visits_of_all, whole_answer}
use Rattle.fg_iter.specs.Lists.{AreBlockWeights, Lists}

was_whole : (cut : Bool) (answer : Result End RunFault) → IsWhole (whole_answer cut answer) → IsWhole answer
was_whole false answer whole = whole
was_whole true (Ok end) whole = tt
was_whole true (Err fault) whole = whole

pub went_whole : (cut : Bool) (answer : Result End RunFault) (has_read rose : List Begun → Type 0) (knows : Bool) (all : List Begun)
    → Went has_read rose knows answer all → Went (λ begun. Unit {0}) rose knows (whole_answer cut answer) all
went_whole cut answer has_read rose knows all went = record {
  begun = went.begun;
  was_read = tt;
  was_counted = went.was_counted;
  are_first = went.are_first;
  are_all = λ known whole. went.are_all known (was_whole cut answer whole);
}

faults_cut : (cut : Bool) (answer : Result End RunFault) (kept : Type 0) (failed : ℕ → Type 0) (old new : ℕ)
    → TellsFaults answer kept failed old new → TellsFaults (whole_answer cut answer) kept failed old new
faults_cut false answer kept failed old new tells = tells
faults_cut true (Ok end) kept failed old new tells = tells
faults_cut true (Err fault) kept failed old new tells = tells

faults_moved : (answer : Result End RunFault) (kept kept_then : Type 0) (failed failed_then : ℕ → Type 0) (old new : ℕ)
    → (kept → kept_then) → ((drive : ℕ) → failed drive → failed_then drive)
    → TellsFaults answer kept failed old new → TellsFaults answer kept_then failed_then old new
faults_moved (Ok end) kept kept_then failed failed_then old new keeps fails tells = (keeps tells.0, tells.1)
faults_moved (Err RunFault.Memory) kept kept_then failed failed_then old new keeps fails tells = (keeps tells.0, tells.1)
faults_moved (Err (RunFault.Drive drive)) kept kept_then failed failed_then old new keeps fails tells = (fails drive tells.0, tells.1)
faults_moved (Err (RunFault.BadEdge bad)) kept kept_then failed failed_then old new keeps fails tells = (keeps tells.0, tells.1)
faults_moved (Err RunFault.Watch) kept kept_then failed failed_then old new keeps fails tells = (keeps tells.0, tells.1)

pub faults_whole : (cut : Bool) (answer result : Result End RunFault) → result ≡ whole_answer cut answer
    → (kept kept_then : Type 0) (failed failed_then : ℕ → Type 0) (old new : ℕ)
    → (kept → kept_then) → ((drive : ℕ) → failed drive → failed_then drive)
    → TellsFaults answer kept failed old new → TellsFaults result kept_then failed_then old new
faults_whole cut answer result is kept kept_then failed failed_then old new keeps fails tells =
    subst (λ (one : Result End RunFault). TellsFaults one kept_then failed_then old new) (sym is)
    (faults_cut cut answer kept_then failed_then old new (faults_moved answer kept kept_then failed failed_then old new keeps fails tells))

pub end_whole : (cut : Bool) (answer : Result End RunFault) (run : Run) → TellsEnd answer run → TellsEnd (whole_answer cut answer) run
end_whole false answer run tells = tells
end_whole true (Ok end) run tells = tt
end_whole true (Err fault) run tells = tells

shown_first : {N : Type 0} (told : IterLine → List VState → List N) (finished : List Finished) (old new : Option (List N)) → ShownAll told finished old new
    → ShownAll told (take (length finished) finished) old new
shown_first told finished old new all =
    let whole : take (length finished) finished ≡ finished = take_all (length finished) finished (omega arith) in
    all ∙ ap (λ (xs : List Finished). grown old (told_of told xs)) (sym whole)

pub shown_whole : {N : Type 0} (cut : Bool) (answer : Result End RunFault) (told : IterLine → List VState → List N) (finished : List Finished)
    (old new : Option (List N)) → ShownAs answer told finished old new → ShownAs (whole_answer cut answer) told finished old new
shown_whole false answer told finished old new shown = shown
shown_whole true (Ok end) told finished old new shown = (length finished, shown_first told finished old new shown)
shown_whole true (Err fault) told finished old new shown = shown

pub if_whole : (cut : Bool) (answer : Result End RunFault) (fact : End → Type 0) → IfOk answer fact → IfOk (whole_answer cut answer) fact
if_whole false answer fact holds = holds
if_whole true (Ok end) fact holds = tt
if_whole true (Err fault) fact holds = tt

pub on_whole : (cut : Bool) (answer : Result End RunFault) (fact : Type 0) → OnOk answer fact → OnOk (whole_answer cut answer) fact
on_whole false answer fact holds = holds
on_whole true (Ok end) fact holds = tt
on_whole true (Err fault) fact holds = tt

-- where the run has an end all its iterations were finished, so that the pages of their lists were found
pub visits_whole : (cut : Bool) (answer : Result End RunFault) (knows : Bool) (all : List Begun) (has_done rose : List Begun → Type 0) (visits : List Begun → ℕ)
    (old new : ℕ) → ((begun : List Begun) → has_done begun → cut ≡ false → old + visits begun ≤ new) → Went has_done rose knows answer all
    → OnOk (whole_answer cut answer) (knows ≡ true → old + visits all ≤ new)
visits_whole false (Ok end) knows all has_done rose visits old new found went =
    λ known. subst (λ (begun : List Begun). old + visits begun ≤ new) (went.are_all known tt) (found went.begun went.was_read refl)
visits_whole true (Ok end) knows all has_done rose visits old new found went = tt
visits_whole false (Err fault) knows all has_done rose visits old new found went = tt
visits_whole true (Err fault) knows all has_done rose visits old new found went = tt

-- a run for which no memory was got began no iteration
pub went_none : {T : Type 0} (runs entries : T → ℕ) (tally : T) (knows : Bool) (all : List Begun)
    → Went (λ begun. Unit {0}) (TallyRoseWith runs entries tally tally) knows (Err RunFault.Memory) all
went_none runs entries tally knows all = record {
  begun = [];
  was_read = tt;
  was_counted = tally_whole runs entries tally tally [] (tally_none (runs tally) (entries tally));
  are_first = λ known. (0, refl);
  are_all = λ known whole. absurd whole;
}

-- what the workers were lent they still have when their slots come back
pub lent_back : {B K F : Type 0} (lends : B → PartMap → K → Type 0) (runner runner_then : B) (map map_then : PartMap) (slots back : List (Slot K F))
    → runner_then ≡ runner → map_then ≡ map → back ≡ slots → All (λ (slot : Slot K F). lends runner_then map_then slot.kept) slots
    → All (λ (slot : Slot K F). lends runner map slot.kept) back
lent_back {B} {K} {F} lends runner runner_then map map_then slots back same_runner same_map same_slots lent =
    subst (λ (all : List (Slot K F)). All (λ (slot : Slot K F). lends runner map slot.kept) all) (sym same_slots)
    (subst (λ (m : PartMap). All (λ (slot : Slot K F). lends runner m slot.kept) slots) same_map
    (subst (λ (r : B). All (λ (slot : Slot K F). lends r map_then slot.kept) slots) same_runner lent))

-- the crew that a run begins with: no marks were made yet, and nothing came
pub first_crew : {P K F : Type 0} (rules_of : P → Rules) (lends : PartMap → K → Type 0) (spent : K → Counted) (crew : Crew P K F) (program : P) (map : PartMap)
    → crew.inboxes.program ≡ program → crew.inboxes.map ≡ map → crew.marked ≡ None → length crew.marks.items ≡ block_total map
    → (0 < length crew.slots.items) × (length crew.slots.items ≤ MAX_WORKERS)
    → All (λ (slot : Slot K F). lends map slot.kept) crew.slots.items → All (λ (slot : Slot K F). IsSettled (spent slot.kept)) crew.slots.items
    → HasCome (rules_of program) map crew.inboxes.parts [] → IsCrew rules_of lends spent crew
first_crew {P} {K} {F} rules_of lends spent crew program map same_program same_map none one_each workers lent settled empty = record {
  one_each = one_each ∙ sym (ap block_total same_map);
  marks = subst (λ (marked : Option ℕ). IfSome marked (λ (phase : ℕ). AreMarks (rules_in rules_of crew) crew.inboxes.map phase crew.states.items crew.marks.items))
      (sym none) tt;
  workers = workers;
  lent = subst (λ (one : PartMap). All (λ (slot : Slot K F). lends one slot.kept) crew.slots.items) (sym same_map) lent;
  settled = settled;
  empty = subst (λ (one : P). HasCome (rules_of one) crew.inboxes.map crew.inboxes.parts []) (sym same_program)
      (subst (λ (one : PartMap). HasCome (rules_of program) one crew.inboxes.parts []) (sym same_map) empty);
}

-- the blocks' weights are also those of the same program and blocks later
pub weights_stay : {P : Type 0} (rules_of : P → Rules) (graph : Graph) (program program_then : P) (map map_then : PartMap) (weights : List ℕ)
    → program_then ≡ program → map_then ≡ map → AreBlockWeights (rules_of program) graph map weights
    → AreBlockWeights (rules_of program_then) graph map_then weights
weights_stay {P} rules_of graph program program_then map map_then weights same_program same_map are =
    subst (λ (one : P). AreBlockWeights (rules_of one) graph map_then weights) (sym same_program)
    (subst (λ (one : PartMap). AreBlockWeights (rules_of program) graph one weights) (sym same_map) are)

-- the pages that a crew found, of the slots that it was made of and those that come back
pub found_back : {P K F : Type 0} (spent : K → Counted) (lists : Lists) (rules : Rules) (begun : List Begun) (first last : Crew P K F)
    (map : PartMap) (slots back : List (Slot K F)) → first.inboxes.map ≡ map → first.slots.items ≡ slots → back ≡ last.slots.items
    → hits_in spent first.slots.items + visits_of_all lists rules first.inboxes.map begun ≤ hits_in spent last.slots.items
    → hits_in spent slots + visits_of_all lists rules map begun ≤ hits_in spent back
found_back {P} {K} {F} spent lists rules begun first last map slots back same_map same_slots same_back found =
    subst (λ (one : List (Slot K F)). hits_in spent slots + visits_of_all lists rules map begun ≤ hits_in spent one) (sym same_back)
    (subst (λ (one : List (Slot K F)). hits_in spent one + visits_of_all lists rules map begun ≤ hits_in spent last.slots.items) same_slots
    (subst (λ (one : PartMap). hits_in spent first.slots.items + visits_of_all lists rules one begun ≤ hits_in spent last.slots.items) same_map found))

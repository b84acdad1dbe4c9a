-- The answers of one iteration and of a run, case by case.
use Rattle.std.specs.Prelude.{◌≡◌, ℕ, ◌+◌, ◌-◌, ◌≤◌, Bool, true, Option, Result, Ok, Err, IfErr, List, Contains, length, sum_by, take}
use Rattle.fg_base.specs.declared.plain.BadEdge.{BadEdge}
use Rattle.fg_base.specs.declared.plain.VState.{VState}
use Rattle.fg_base.specs.Faults.{Rose}
use Rattle.fg_model.specs.declared.graph.Graph.{Graph}
use Rattle.fg_model.specs.declared.iteration.Counts.{Counts}
use Rattle.fg_model.specs.declared.iteration.IterFault.{IterFault}
use Rattle.fg_model.specs.declared.iteration.Iteration.{Iteration}
use Rattle.fg_model.specs.declared.run.End.{End}
use Rattle.fg_model.specs.declared.run.RunFault.{RunFault}
use Rattle.fg_model.specs.declared.watch.IterLine.{IterLine}
use Rattle.fg_model.specs.Iteration.{Begun, IsIteration}
use Rattle.fg_model.specs.Program.{Rules}
use Rattle.fg_model.specs.Run.{Finished, Run, answer_of, begun_of, entries_of, run, runs_of}
use Rattle.fg_model.specs.Watch.{ShownAll, ShownPart, ShownSome}

-- a finished iteration, from the states after it and its counts
abbrev pub iteration_of : List VState → Counts → Iteration
iteration_of states counts = record { states = states; active = counts.active; messages = counts.messages }

-- the iteration of this phase from the old states came to the new ones with these counts
abbrev pub HasIterated : Rules → Graph → ℕ → List VState → List VState → Counts → Type 0
HasIterated P graph phase old new counts = IsIteration P graph phase old (iteration_of new counts)

-- the counts are those of the iteration that began
pub record HasCounted (counts : Counts) (begun : Begun) : Type 0 where
  pub active_count : counts.active ≡ length begun.active
  pub message_count : counts.messages ≡ begun.messages

-- a count rose by at most so much
pub record RoseUpTo (most old new : ℕ) : Type 0 where
  pub at_least : old ≤ new
  pub at_most : new ≤ old + most

-- a fact for each fault of an iteration
abbrev pub MatchIterFault : IterFault → Type 0 → (ℕ → Type 0) → (BadEdge → Type 0) → Type 0
MatchIterFault IterFault.Memory on_memory on_drive on_bad_edge = on_memory
MatchIterFault (IterFault.Drive drive) on_memory on_drive on_bad_edge = on_drive drive
MatchIterFault (IterFault.BadEdge bad) on_memory on_drive on_bad_edge = on_bad_edge bad

-- a fact of the bad edge, where the answer is one
abbrev pub IfBadEdge : {A : Type 0} → Result A IterFault → (BadEdge → Type 0) → Type 0
IfBadEdge answer fact = IfErr answer (λ fault. MatchIterFault fault (Unit {0}) (λ drive. Unit {0}) fact)

-- a fact for each fault of a run
abbrev pub MatchRunFault : RunFault → Type 0 → (ℕ → Type 0) → (BadEdge → Type 0) → Type 0 → Type 0
MatchRunFault RunFault.Memory on_memory on_drive on_bad_edge on_watch = on_memory
MatchRunFault (RunFault.Drive drive) on_memory on_drive on_bad_edge on_watch = on_drive drive
MatchRunFault (RunFault.BadEdge bad) on_memory on_drive on_bad_edge on_watch = on_bad_edge bad
MatchRunFault RunFault.Watch on_memory on_drive on_bad_edge on_watch = on_watch

-- the fault of a run that an iteration's fault is
abbrev pub run_fault_of : IterFault → RunFault
run_fault_of IterFault.Memory = RunFault.Memory
run_fault_of (IterFault.Drive drive) = RunFault.Drive drive
run_fault_of (IterFault.BadEdge bad) = RunFault.BadEdge bad

-- whose count of faults rose, by the answer: that of the drive or the watch that it names, and no other. `kept` says that
-- no drive's count rose, and `failed` that this drive is the least whose count did
abbrev pub TellsFaults : Result End RunFault → Type 0 → (ℕ → Type 0) → ℕ → ℕ → Type 0
TellsFaults (Ok end) kept failed old new = kept × (new ≡ old)
TellsFaults (Err fault) kept failed old new =
    MatchRunFault fault (kept × (new ≡ old)) (λ drive. failed drive × (new ≡ old)) (λ bad. kept × (new ≡ old)) (kept × Rose old new)

-- an end and a bad edge are what the run answers
abbrev pub TellsEnd : Result End RunFault → Run → Type 0
TellsEnd (Ok end) run = answer_of run ≡ Ok end
TellsEnd (Err fault) run = MatchRunFault fault (Unit {0}) (λ drive. Unit {0}) (λ bad. answer_of run ≡ Err (RunFault.BadEdge bad)) (Unit {0})

-- the answer is an end or a bad edge, so that the run came to its end
abbrev pub IsWhole : Result End RunFault → Type 0
IsWhole (Ok end) = Unit {0}
IsWhole (Err fault) = MatchRunFault fault ⊥ (λ drive. ⊥) (λ bad. Unit {0}) ⊥

-- what the watch was shown of the finished iterations, by the answer: all of them where the run came to its end, some first
-- ones at want of memory and where a drive failed, and a part of what it tells of the next one too where it failed itself
abbrev pub ShownAs : {N : Type 0} → Result End RunFault → (IterLine → List VState → List N) → List Finished → Option (List N) → Option (List N) → Type 0
ShownAs (Ok end) told finished old new = ShownAll told finished old new
ShownAs (Err fault) told finished old new =
    MatchRunFault fault (ShownSome told finished old new) (λ drive. ShownSome told finished old new)
    (λ bad. ShownAll told finished old new) (ShownPart told finished old new)

-- some first items of a list
abbrev pub IsFirstOf : {A : Type 0} → List A → List A → Type 0
IsFirstOf first all = (k : ℕ) × (first ≡ take k all)

-- a count rose with iterations that began, by the amount of each: by all of it for each but the last, which may have been cut
-- short
pub record RoseWith (amount : Begun → ℕ) (begun : List Begun) (old new : ℕ) : Type 0 where
  pub at_least : old + sum_by amount (take (length begun - 1) begun) ≤ new
  pub at_most : new ≤ old + sum_by amount begun

-- both counts of a tally rose with iterations that began: one for each vertex that was active, one for each entry needed
pub record TallyRoseWith {T : Type 0} (runs entries : T → ℕ) (old new : T) (begun : List Begun) : Type 0 where
  pub runs_rose : RoseWith (λ one. length one.active) begun (runs old) (runs new)
  pub entries_rose : RoseWith (λ one. one.messages) begun (entries old) (entries new)

-- the tally counts these finished iterations and nothing else
pub record HasTallied {T : Type 0} (runs entries : T → ℕ) (old new : T) (finished : List Finished) : Type 0 where
  pub runs_rose : runs new ≡ runs old + runs_of finished
  pub entries_rose : entries new ≡ entries old + entries_of finished

-- how far a run went before its answer: some iterations began, with what was read for them and how the tally rose with them.
-- Where the graph is told these are first ones of all that begin in the run, and all where it came to its end
pub record Went (has_read tally_rose : List Begun → Type 0) (knows : Bool) (answer : Result End RunFault) (all : List Begun) : Type 0 where
  pub begun : List Begun
  pub was_read : has_read begun
  pub was_counted : tally_rose begun
  pub are_first : knows ≡ true → IsFirstOf begun all
  pub are_all : knows ≡ true → IsWhole answer → begun ≡ all

-- the iterations that begin in the run of a program on a graph, at most so many
abbrev pub begun_in : Rules → Graph → ℕ → List Begun
begun_in P graph max = begun_of (run P graph max)

-- a fact of each iteration that may begin: of those of the run where the graph is told, of all where it isn't
abbrev pub OfEachBegun : Bool → List Begun → (Begun → Type 0) → Type 0
OfEachBegun knows all fact = (begun : Begun) → (knows ≡ true → Contains all begun) → fact begun

-- how far an engine went with a run, by what it did from one value of it to the next
abbrev pub EngineWent : {E : Type 0} → (E → E → Rules → List Begun → Type 0) → (E → Bool) → (E → Graph) → E → E → Rules → ℕ
    → (List Begun → Type 0) → Result End RunFault → Type 0
EngineWent did knows graph old new P max tally_rose answer =
    Went (did old new P) tally_rose (knows old) answer (begun_in P (graph old) max)

-- what a watch was shown of the finished iterations, from one value of it to the next
abbrev pub WatchShown : {N W : Type 0} → Result End RunFault → (W → IterLine → List VState → List N) → (W → Option (List N))
    → W → W → List Finished → Type 0
WatchShown answer told notes old new finished = ShownAs answer (told old) finished (notes old) (notes new)

-- A run by a crew: what may be run, and what came of it.
use Rattle.std.specs.Prelude.{◌≡◌, ℕ, ◌+◌, ◌≤◌, true, Option, Result, List}
use Rattle.fg_base.specs.declared.plain.VState.{VState}
use Rattle.fg_crew.specs.declared.slot.Slot.{Slot}
use Rattle.fg_model.specs.declared.run.End.{End}
use Rattle.fg_model.specs.declared.run.RunFault.{RunFault}
use Rattle.fg_model.specs.declared.watch.IterLine.{IterLine}
use Rattle.fg_model.specs.Engine.{HasTallied, OfEachBegun, WatchShown, Went, begun_in}
use Rattle.fg_model.specs.Iteration.{Begun}
use Rattle.fg_model.specs.Program.{Rules}
use Rattle.fg_model.specs.Run.{Finished, run}
use Rattle.fg_part.specs.declared.part_map.PartMap.{PartMap}
use Rattle.fg_task.specs.Spending.{Counted}
use Rattle.fg_iter.specs.Crew.{hits_in}
use Rattle.fg_iter.specs.Engine.{visits_of_all}
use Rattle.fg_iter.specs.Lists.{Lists}

-- each iteration of the run may be run
abbrev pub AllowsRun : (Rules → Begun → Type 0) → Lists → Rules → ℕ → Type 0
AllowsRun allows lists P max = OfEachBegun lists.knows (begun_in P lists.graph max) (allows P)

-- the iterations that a run finishes
abbrev pub finished_in : Lists → Rules → ℕ → List Finished
finished_in lists P max = (run P lists.graph max).finished

-- how far the crew went with it, by how the tally rose
abbrev pub CrewWent : Lists → Rules → ℕ → (List Begun → Type 0) → Result End RunFault → Type 0
CrewWent lists P max tally_rose answer = Went (λ begun. Unit {0}) tally_rose lists.knows answer (begun_in P lists.graph max)

-- the workers found all pages of the run's needed lists
abbrev pub FoundAll : {K F : Type 0} → (K → Counted) → Lists → Rules → PartMap → ℕ → List (Slot K F) → List (Slot K F) → Type 0
FoundAll spent lists P map max old new =
    lists.knows ≡ true → hits_in spent old + visits_of_all lists P map (begun_in P lists.graph max) ≤ hits_in spent new

-- the watch was shown the iterations that the run finishes, as far as the answer says
abbrev pub RunShown : {N W : Type 0} → Lists → Rules → ℕ → (W → IterLine → List VState → List N) → (W → Option (List N)) → W → W
    → Result End RunFault → Type 0
RunShown lists P max told notes old new answer =
    lists.knows ≡ true → WatchShown answer told notes old new (finished_in lists P max)

-- the tally counts the iterations that the run finishes and nothing else
abbrev pub RunTallied : {T : Type 0} → Lists → Rules → ℕ → (T → ℕ) → (T → ℕ) → T → T → Type 0
RunTallied lists P max runs entries old new = lists.knows ≡ true → HasTallied runs entries old new (finished_in lists P max)

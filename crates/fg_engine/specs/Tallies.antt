-- How a run raises the tally.
use Rattle.std.specs.Prelude.{◌≡◌, ℕ, ◌+◌, List, length}
use Rattle.fg_base.specs.declared.tally.Tally.{Ghosts as TallyGhosts}
use Rattle.fg_model.specs.Engine.{IsFirstOf, RoseWith}
use Rattle.fg_model.specs.Iteration.{Begun}
use Rattle.fg_model.specs.Run.{Run, entries_of, runs_of}

-- a tally: its two numbers, before and after a call
pub record Tallied : Type 0 where
  pub old_runs : ℕ
  pub new_runs : ℕ
  pub old_entries : ℕ
  pub new_entries : ℕ

abbrev pub tallied : ℕ → ℕ → ℕ → ℕ → Tallied
tallied old_runs new_runs old_entries new_entries =
    record { old_runs = old_runs; new_runs = new_runs; old_entries = old_entries; new_entries = new_entries }

abbrev pub tally_between : {T : Type 0} → TallyGhosts T → T → T → Tallied
tally_between tells old new = tallied (tells.runs old) (tells.runs new) (tells.entries old) (tells.entries new)

-- they rose by the run's vertex runs and by their needed entries
pub record RoseByRun (run : Run) (tally : Tallied) : Type 0 where
  pub runs : tally.new_runs ≡ tally.old_runs + runs_of run.finished
  pub entries : tally.new_entries ≡ tally.old_entries + entries_of run.finished

-- they rose with iterations that began: by all of each but the last, which may have been cut short
pub record RoseWithBegun (begun : List Begun) (tally : Tallied) : Type 0 where
  pub runs : RoseWith (λ one. length one.active) begun tally.old_runs tally.new_runs
  pub entries : RoseWith (λ one. one.messages) begun tally.old_entries tally.new_entries

-- they rose with some first ones of these iterations, which began, and with all of them where the work is whole
pub record RoseWithin (whole : Type 0) (all : List Begun) (tally : Tallied) : Type 0 where
  pub begun : List Begun
  pub are_first : IsFirstOf begun all
  pub are_all : whole → begun ≡ all
  pub rose : RoseWithBegun begun tally

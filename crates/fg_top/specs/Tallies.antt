-- How a job raises the tally.
use Rattle.std.specs.Prelude.{◌≡◌, ℕ, Option, None, Some, Result, Ok, Err, List, [], nat_le, if◌then◌else◌}
use Rattle.fg_base.specs.declared.refusal.Refusal.{Refusal}
use Rattle.fg_engine.specs.Tallies.{RoseByRun, Tallied}
use Rattle.fg_model.specs.Iteration.{Begun}
use Rattle.fg_model.specs.Run.{begun_of}
use Rattle.fg_top.specs.declared.wish.Wish.{Wish}
use Rattle.fg_top.specs.Outcome.{Counted, run_in, source_of}

-- both numbers are as before
pub record Stood (tally : Tallied) : Type 0 where
  pub runs : tally.new_runs ≡ tally.old_runs
  pub entries : tally.new_entries ≡ tally.old_entries

-- the iterations that begin where the source, if there is one, is one of so many vertices
abbrev pub begin_where : Option ℕ → ℕ → List Begun → List Begun
begin_where None vertices begun = begun
begin_where (Some source) vertices begun = if nat_le vertices source then [] else begun

-- the iterations that begin in the run that is wished for on a graph with its counts; none where there is no graph
abbrev pub begins_of : Wish → Result Counted Refusal → List Begun
begins_of wish (Err refusal) = []
begins_of wish (Ok counted) = begin_where (source_of wish.pick) counted.vertices (begun_of (run_in wish counted.graph))

-- they rose by the run that is wished for on a graph with its counts; where there is none, no run is done
abbrev pub RoseByWish : Wish → Result Counted Refusal → Tallied → Type 0
RoseByWish wish (Err refusal) tally = ⊥
RoseByWish wish (Ok counted) tally = RoseByRun (run_in wish counted.graph) tally

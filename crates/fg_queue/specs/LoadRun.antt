-- What holds of every run of loads.
use Rattle.std.specs.Prelude.{◌≡◌, ℕ, ◌+◌, ◌<◌, ◌≤◌, List, length, slice_index_or}
use Rattle.fg_queue.specs.QueueStep.{run_of}
use Rattle.fg_queue.specs.Slips.{RunTaken}
use Rattle.fg_queue.specs.declared.load.Load.{Load}

-- the loads' local pages are this one, the next one, and so on
abbrev pub AreConsecutive : ℕ → List Load → Type 0
AreConsecutive first loads = (k : ℕ) (d : Load) → k < length loads → (slice_index_or loads k d).local ≡ first + k

-- a load of no page, which stands for what is beyond a list's end
abbrev pub no_load : Load
no_load = record { page = 0; local = 0; frame = 0 }

-- the local page with which the run begins
abbrev pub first_of : List Load → ℕ
first_of loads = (slice_index_or loads 0 no_load).local

pub record IsRun (run : RunTaken) : Type 0 where
  pub taken : run.loads ≡ run_of run.queue.loads
  pub some_load : 0 < length run.loads
  pub at_most_32 : length run.loads ≤ 32
  pub consecutive : AreConsecutive (first_of run.loads) run.loads

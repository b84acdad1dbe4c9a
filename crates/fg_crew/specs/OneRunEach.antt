-- What the tests' workers run: blocks of one run each, which send nothing.
use Rattle.std.specs.Prelude.{ℕ, false, None, []}
use Rattle.fg_task.specs.Blocks.{Blocks}
use Rattle.fg_task.specs.Spending.{Counted}
use Rattle.fg_part.specs.declared.part_map.PartMap.{PartMap}

abbrev pub one_run_each : PartMap → Blocks
one_run_each blocks = record {
  map = blocks;
  knows = false;
  mail_of = λ _. [];
  active_of = λ _. 1;
  needed_of = λ _. 0;
  bad_of = λ _. None;
  visits_of = λ _. 1;
}

-- so many runs, with a page found for each
abbrev pub spent_on_runs : ℕ → Counted
spent_on_runs runs = record { runs = runs; entries = 0; hits = runs }

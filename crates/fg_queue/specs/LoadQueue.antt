-- A drive's queue as contracts see it.
use Rattle.std.specs.Prelude.{ℕ, List}
use Rattle.fg_queue.specs.declared.load.Load.{Load}

-- the loads that wait, the oldest first, and how many may
pub record LoadQueue : Type 0 where
  pub depth : ℕ
  pub loads : List Load

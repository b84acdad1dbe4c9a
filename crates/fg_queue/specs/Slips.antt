-- What the slips of a queue were made from.
use Rattle.std.specs.Prelude.{List}
use Rattle.fg_queue.specs.LoadQueue.{LoadQueue}
use Rattle.fg_queue.specs.declared.load.Load.{Load}

-- a load that found no room, and the queue that turned it away
pub record TurnedAway : Type 0 where
  pub load : Load
  pub queue : LoadQueue

-- the loads of a run, and the queue that gave it, as it was before
pub record RunTaken : Type 0 where
  pub loads : List Load
  pub queue : LoadQueue

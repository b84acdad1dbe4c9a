-- What the calls of a queue answer, and what they make of it.
use Rattle.std.specs.Prelude.{ℕ, ◌+◌, ◌==◌, Bool, List, [], ◌∷◌, ◌++◌, Option, Some, None, find, if◌then◌else◌, length, nat_lt}
use Rattle.std.proofs.Common.{zero, suc}
use Rattle.fg_queue.specs.LoadQueue.{LoadQueue}
use Rattle.fg_queue.specs.declared.load.Load.{Load}

-- ---- `push`: a load comes to wait, behind all others

-- the queue has room for another load
abbrev pub has_room : LoadQueue → Bool
has_room queue = nat_lt (length queue.loads) queue.depth

-- the queue after a push: a full one is left as it was
abbrev pub pushed : Load → LoadQueue → LoadQueue
pushed load queue = if has_room queue then record queue { loads = queue.loads ++ load ∷ [] } else queue

-- ---- `take_run`: the loads that one read of the drive serves

abbrev pub is_of : ℕ → Load → Bool
is_of local load = load.local == local

-- the load, if there is one, and then the run of the next local pages
abbrev pub led_by : Option Load → List Load → List Load
led_by None run = []
led_by (Some load) run = load ∷ run

-- the oldest load of this local page, of the next one, and so on: as long as there is one, and as long as there is room
unfoldable pub run_from : ℕ → ℕ → List Load → List Load
run_from zero local loads = []
run_from (suc room) local loads = led_by (find (is_of local) loads) (run_from room (local + 1) loads)

-- the run begins with the oldest load, and has 32 loads at most
abbrev pub run_of : List Load → List Load
run_of [] = []
run_of (oldest ∷ loads) = run_from 32 oldest.local (oldest ∷ loads)

-- the oldest load of a local page leaves, the others keep their order
abbrev pub without_oldest : ℕ → List Load → List Load
without_oldest local [] = []
without_oldest local (load ∷ loads) = if is_of local load then loads else load ∷ without_oldest local loads

-- what a run leaves of the loads
abbrev pub rest_after : List Load → List Load → List Load
rest_after [] loads = loads
rest_after (load ∷ run) loads = rest_after run (without_oldest load.local loads)

-- the queue after `take_run`; an empty one stays empty
abbrev pub after_run : LoadQueue → LoadQueue
after_run queue = record queue { loads = rest_after (run_of queue.loads) queue.loads }

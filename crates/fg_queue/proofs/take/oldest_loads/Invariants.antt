use Rattle.std.proofs.Common.{◌≡◌, ℕ, ◌+◌, ◌<◌, None, get_or, take}
use Rattle.std.specs.List.{find}
use Rattle.fg_queue.specs.QueueStep.{is_of}
use Rattle.fg_queue.proofs.take.oldest_loads.Given as goal

abbrev pub invariant-loop-load : goal.invariant-loop-load
invariant-loop-load l = (k : ℕ) → k < 32 → get_or l.oldest k None ≡ find (is_of (l.first + k)) (take l.load-index l.loads)

use Rattle.std.proofs.Common.{ℕ, ◌+◌, ◌-◌, ◌<◌, ◌≤◌, get_or, length}
use Rattle.fg_queue.specs.Merge.{no_ask}
use Rattle.fg_queue.proofs.merge.run_end.Given as goal

abbrev pub invariant-loop-end : goal.invariant-loop-end
invariant-loop-end l = record {
  more : l.start < l.end;
  within : l.end ≤ length l.sorted;
  steps : (k : ℕ) → l.start ≤ k → k + 1 < l.end → (get_or l.sorted (k + 1) no_ask).page ≤ (get_or l.sorted k no_ask).page + 1;
}

abbrev pub decreases-loop-end : goal.decreases-loop-end
decreases-loop-end l = length l.sorted - l.end

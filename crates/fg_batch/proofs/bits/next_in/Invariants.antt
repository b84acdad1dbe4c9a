use Rattle.std.proofs.Common.{◌≡◌, ℕ, ◌*◌, ◌<◌, ◌≤◌, false}
use Rattle.fg_batch.specs.Bits.{is_in}
use Rattle.fg_batch.proofs.bits.next_in.Given as goal

abbrev pub invariant-loop-next : goal.invariant-loop-next
invariant-loop-next l = (k : ℕ) → l.from ≤ k → k < l.next * 64 → is_in l.words k ≡ false

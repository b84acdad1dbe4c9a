use Rattle.std.proofs.Common.{◌≡◌, ℕ, ◌<◌, ◌≤◌, false, get_or, length}
use Rattle.fg_batch.specs.Bits.{is_in}
use Rattle.fg_batch.proofs.bits.wipe.Given as goal

abbrev pub invariant-loop-index : goal.invariant-loop-index
invariant-loop-index l = record {
  length : length l.words.items ≡ length l.fn.words.items;
  zeros : (k : ℕ) → l.from ≤ k → k < l.index → get_or l.words.items k 0 ≡ 0;
  less : (k : ℕ) → is_in l.fn.words.items k ≡ false → is_in l.words.items k ≡ false;
}

use Rattle.std.proofs.Common.{◌≡◌, ℕ, ◌<◌, false, get_or, length}
use Rattle.fg_batch.specs.Bits.{AreFlagged}
use Rattle.fg_batch.proofs.bits.wipe_flagged.Given as goal

abbrev pub invariant-loop-block : goal.invariant-loop-block
invariant-loop-block l = record {
  word_count : length l.words.items ≡ length l.fn.words.items;
  flag_count : length l.flags.items ≡ length l.fn.flags.items;
  flagged : AreFlagged l.size l.flags.items l.words.items;
  gone : (b : ℕ) → b < l.block → get_or l.flags.items b false ≡ false;
}

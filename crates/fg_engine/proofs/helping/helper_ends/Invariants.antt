use Rattle.std.proofs.Common.{◌≡◌, ◌≤◌, length, vec_len, vec_capacity}
use Rattle.fg_engine.proofs.helping.helper_ends.Given as goal

abbrev pub invariant-loop-drive : goal.invariant-loop-drive
invariant-loop-drive l = record {
  count : length l.ends.items ≡ l._drive;
  long : vec_len l.ends ≡ l._drive;
  room : l.fn.count ≤ vec_capacity l.ends;
}

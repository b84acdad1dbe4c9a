use Rattle.std.proofs.Common.{◌≡◌, ◌≤◌, All, length, vec_len, vec_capacity}
use Rattle.fg_base.specs.declared.limits.TheConstants.{NO_PAGE}
use Rattle.fg_cache.proofs.stock.make_parked.Given as goal

abbrev pub invariant-loop-drive : goal.invariant-loop-drive
invariant-loop-drive l = record {
  count : length l.parked.items ≡ l._drive;
  long : vec_len l.parked ≡ l._drive;
  room : l.fn.count ≤ vec_capacity l.parked;
  blank : All (λ one. one.spare.number ≡ NO_PAGE) l.parked.items;
}

use Rattle.std.proofs.Common.{◌≡◌, ◌-◌, ◌≤◌, length, vec_len, vec_capacity}
use Rattle.fg_cache.specs.Opening.{AreNew}
use Rattle.fg_cache.specs.Share.{idle}
use Rattle.fg_cache.proofs.stock.make_passes.Given as goal

abbrev pub invariant-loop-number : goal.invariant-loop-number
invariant-loop-number l = record {
  count : length l.passes.items ≡ l.number;
  long : vec_len l.passes ≡ l.number;
  room : l.fn.home.shape.passes ≤ vec_capacity l.passes;
  new : AreNew l.fn.home l.passes.items;
  share : l.share ≡ idle l.fn.ledgers (l.initial.share.parts - l.number);
}

use Rattle.std.proofs.Common.{◌≡◌, ◌-◌, ◌≤◌, length, vec_len, vec_capacity}
use Rattle.fg_cache.specs.Cache.{AreNamed}
use Rattle.fg_cache.specs.Share.{idle}
use Rattle.fg_cache.proofs.stock.make_sets.Given as goal

abbrev pub invariant-loop-number : goal.invariant-loop-number
invariant-loop-number l = record {
  count : length l.sets.items ≡ l.number;
  long : vec_len l.sets ≡ l.number;
  room : l.fn.home.shape.sets ≤ vec_capacity l.sets;
  names : AreNamed l.fn.home l.sets.items;
  share : l.share ≡ idle l.fn.ledgers (l.initial.share.parts - l.number);
}

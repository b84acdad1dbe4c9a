use Rattle.std.proofs.Common.{◌≡◌, ◌-◌, ◌≤◌, length, vec_len, vec_capacity}
use Rattle.fg_cache.specs.Cache.{AreNamed}
use Rattle.fg_cache.specs.Share.{idle}
use Rattle.fg_cache.proofs.stock.make_queues.Given as goal

abbrev pub invariant-loop-number : goal.invariant-loop-number
invariant-loop-number l = record {
  count : length l.queues.items ≡ l.number;
  long : vec_len l.queues ≡ l.number;
  room : l.fn.home.layout.drives ≤ vec_capacity l.queues;
  names : AreNamed l.fn.home l.queues.items;
  share : l.share ≡ idle l.fn.ledgers (l.initial.share.parts - l.number);
}

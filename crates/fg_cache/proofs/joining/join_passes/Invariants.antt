use Rattle.std.proofs.Common.{◌≡◌, ◌+◌, length, pos, ◌-ℤ◌}
use Rattle.std.specs.List.{All}
use Rattle.fg_cache.specs.Closing.{all_queued, all_stale}
use Rattle.fg_cache.proofs.joining.join_passes.Given as goal

abbrev pub invariant-loop-pass : goal.invariant-loop-pass
invariant-loop-pass l = record {
  books : l.all.books ≡ l.fn.ledgers;
  parts : l.all.parts + length l.passes.items ≡ l.fn.share.parts + length l.fn.passes.items;
  pushes : l.all.pushes -ℤ pos (all_queued l.passes.items) ≡ l.fn.share.pushes -ℤ pos (all_queued l.fn.passes.items);
  takes : l.all.takes ≡ l.fn.share.takes;
  entries : l.all.entries ≡ l.fn.share.entries;
  repairs : l.all.repairs -ℤ pos (all_stale l.passes.items) ≡ l.fn.share.repairs -ℤ pos (all_stale l.fn.passes.items);
  own : All (λ pass. pass.books ≡ l.fn.ledgers) l.passes.items;
}

abbrev pub decreases-loop-pass : goal.decreases-loop-pass
decreases-loop-pass l = goal.left-loop-pass l

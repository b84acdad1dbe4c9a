use Rattle.std.proofs.Common.{◌≡◌, ◌++◌, ◌+◌, ◌≤◌, length, vec_capacity}
use Rattle.std.specs.Prelude.{reverse}
use Rattle.fg_engine.specs.Helping.{as_list, shares_in}
use Rattle.fg_engine.proofs.helping.shares_of.Given as goal

abbrev pub invariant-loop-end : goal.invariant-loop-end
invariant-loop-end l = record {
  shares : l.shares.items ++ shares_in (reverse l.ends.items) ≡ as_list l.fn.fault ++ shares_in (reverse l.fn.ends.items);
  room : length l.shares.items + length l.ends.items ≤ vec_capacity l.shares;
}

abbrev pub decreases-loop-end : goal.decreases-loop-end
decreases-loop-end l = length l.ends.items

use Rattle.std.proofs.Common.{◌≡◌, ◌≤◌}
use Rattle.fg_iter.specs.Ring.{opened}
use Rattle.fg_iter.proofs.tests.opening.Given as goal

abbrev pub invariant-loop-v : goal.invariant-loop-v
invariant-loop-v l = record {
  states : l.states.items ≡ opened 3 l.v;
  few : l.v ≤ 29;
}

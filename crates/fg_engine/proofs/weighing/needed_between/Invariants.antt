use Rattle.std.proofs.Common.{◌≡◌, ◌-◌, ◌*◌, ◌≤◌}
use Rattle.std.specs.List.{range_with_len, sum_by}
use Rattle.fg_engine.specs.Weights.{needed_degree}
use Rattle.fg_engine.proofs.weighing.needed_between.Given as goal

abbrev pub invariant-loop-v : goal.invariant-loop-v
invariant-loop-v l = record {
  so_far : l.entries ≡ sum_by (needed_degree l.fn.index l.fn.need) (range_with_len l.fn.first (l.v - l.fn.first));
  few : l.entries ≤ (l.v - l.fn.first) * 8589934592;
}

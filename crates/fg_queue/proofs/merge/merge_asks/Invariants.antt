use Rattle.std.proofs.Common.{◌≡◌, ◌-◌, ◌+◌, ◌<◌, ◌≤◌, All, length, take, get_or}
use Rattle.std.specs.List.{AllAdjacentBelow, flat_map}
use Rattle.fg_queue.specs.declared.merge.PageRun.{PageRun}
use Rattle.fg_queue.specs.Merge.{IsPageRun, IsApart, IsByPage, no_ask}
use Rattle.fg_queue.proofs.merge.merge_asks.Given as goal

abbrev pub invariant-loop-start : goal.invariant-loop-start
invariant-loop-start l = record {
  within : l.start ≤ length l.sorted.items;
  by_page : IsByPage l.asks.items l.sorted.items;
  so_far : flat_map (λ (run : PageRun). run.jobs) l.runs.items ≡ take l.start l.sorted.items;
  runs : All IsPageRun l.runs.items;
  maximal : AllAdjacentBelow IsApart l.runs.items (length l.runs.items);
  behind : l.start < length l.sorted.items → All (λ (run : PageRun). run.first + run.count < (get_or l.sorted.items l.start no_ask).page) l.runs.items;
}

abbrev pub decreases-loop-start : goal.decreases-loop-start
decreases-loop-start l = length l.sorted.items - l.start

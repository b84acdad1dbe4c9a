use Rattle.std.proofs.Common.{◌≡◌, ◌-◌, length}
use Rattle.std.specs.List.{range_with_len}
use Rattle.fg_iter.specs.Ring.{AreOfRuns}
use Rattle.fg_task.specs.Block.{awake_of}
use Rattle.fg_walks.specs.Bfs.{bfs}
use Rattle.fg_iter.proofs.tests.run_vertices.Given as goal

abbrev pub invariant-loop-v : goal.invariant-loop-v
invariant-loop-v l = record {
  sent : AreOfRuns (length l.states) l.sent.mails.items l.sent.count.runs l.sent.count.entries;
  active : l.sent.count.runs ≡ length (awake_of (bfs l.program.source) l.phase l.states (range_with_len l.first (l.v - l.first)));
}

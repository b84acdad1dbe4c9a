use Rattle.std.proofs.Common.{◌≡◌}
use Rattle.fg_edges.specs.Segment.{segment_entries}
use Rattle.fg_task.specs.Jobs.{work_of}
use Rattle.fg_task.proofs.AlongLaws.{GoesOn}
use Rattle.fg_task.proofs.along.AlongSegmentRun.run.Given as goal

abbrev pub invariant-loop-entry : goal.invariant-loop-entry
invariant-loop-entry g l = record {
  can : (goal.iterator-loop-entry g).can_next l.entry-iterator;
  finite : (goal.iterator-loop-entry g).is_finite l.entry-iterator;
  goes : GoesOn (work_of (g.P.Program.rules l.fn.self.program.now) l.fn.self.n l.fn.self.weighted) l.fn.job
      (segment_entries l.fn.self.weighted l.fn.bytes l.fn.job.segment) l.entry-iterator l.fn.outbox l.outbox
      (g.T.Tally.entries l.fn.tally) (g.T.Tally.entries l.tally) l.place l.bad;
  runs : g.T.Tally.runs l.tally ≡ g.T.Tally.runs l.fn.tally;
}

use Rattle.std.proofs.Common.{◌≡◌, ◌+◌, length}
use Rattle.fg_task.specs.Book.{jobs_of}
use Rattle.fg_worker.specs.Beginning.{StandFor}
use Rattle.fg_worker.specs.Desk.{setting_of}
use Rattle.fg_worker.proofs.BeginLaws.{awake_from}
use Rattle.fg_worker.proofs.beginning.begin_block.Given as goal

abbrev pub invariant-loop-v : goal.invariant-loop-v
invariant-loop-v g l = record {
  function : l.book.function ≡ l.fn.book.function;
  active : l.active ≡ length (awake_from (g.P.Program.rules l.fn.desk.program.now) l.fn.desk.phase l.fn.desk.states.now l.first l.v);
  begun : StandFor (setting_of g.P.Program.rules l.fn.desk)
      (awake_from (g.P.Program.rules l.fn.desk.program.now) l.fn.desk.phase l.fn.desk.states.now l.first l.v) (jobs_of l.book);
  runs : g.T.Tally.runs l.tally ≡ g.T.Tally.runs l.fn.tally
      + length (awake_from (g.P.Program.rules l.fn.desk.program.now) l.fn.desk.phase l.fn.desk.states.now l.first l.v);
  entries : g.T.Tally.entries l.tally ≡ g.T.Tally.entries l.fn.tally;
}

use Rattle.std.proofs.Common.{◌+◌, length}
use Rattle.fg_task.specs.Book.{jobs_on}
use Rattle.fg_task.specs.Running.{messages_of}
use Rattle.fg_task.proofs.book.TaskBook.run_on.Given as goal

-- as many more as the page's jobs send
abbrev pub ghosts-sent_after : goal.ghosts-sent_after
ghosts-sent_after g a = record {
  messages = a._book.now.sent + length (messages_of (g.F.SegmentRun.work a._book.now.function) a._bytes.now (jobs_on a._page a._book.now));
}

use Rattle.std.proofs.Common.{List, take}
use Rattle.std.specs.Prelude.{All}
use Rattle.fg_task.specs.declared.job.Job.{Job}
use Rattle.fg_task.specs.Book.{Tells}
use Rattle.fg_task.specs.Groups.{IsGroup, waiting}
use Rattle.fg_task.proofs.group.tell.Given as goal

abbrev pub invariant-loop-group : goal.invariant-loop-group
invariant-loop-group l = record {
  tells : (jobs : List Job) → All (IsGroup jobs) l.groups → Tells (waiting jobs (take l.group-index l.groups)) l.fn.pages.items l.pages.items;
}

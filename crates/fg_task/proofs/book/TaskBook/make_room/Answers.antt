use Rattle.std.proofs.Common.{◌≡◌, ℕ, List, OnOk, ◌++◌, subst, arith}
use Rattle.std.specs.Prelude.{filter}
use Rattle.fg_batch.specs.Outbox.{HasRoom}
use Rattle.fg_task.specs.declared.job.Job.{Job}
use Rattle.fg_task.specs.Jobs.{Work, is_on}
use Rattle.fg_task.specs.Running.{entries_of}
use Rattle.fg_task.proofs.CountLaws.{entries_on-both, entries_on-few}
use Rattle.fg_task.proofs.book.TaskBook.make_room.Goals as goal

pub returns-in_err-outs-clause-few : goal.returns-in_err-outs-clause-few
returns-in_err-outs-clause-few g c =
    rw (← c.self.view_is) (entries_on-few (g.F.SegmentRun.work c.self.inside.function) c.args.page c.self.inside.outs c.self.inside.ins)

pub returns-in_err-ins-clause-few : goal.returns-in_err-ins-clause-few
returns-in_err-ins-clause-few g c =
    rw (← c.self.view_is) (entries_on-few (g.F.SegmentRun.work c.self.inside.function) c.args.page c.self.inside.outs c.self.inside.ins)

pub returns-in_err-added-clause-few : goal.returns-in_err-added-clause-few
returns-in_err-added-clause-few g c =
    rw (← c.self.view_is) (entries_on-few (g.F.SegmentRun.work c.self.inside.function) c.args.page c.self.inside.outs c.self.inside.ins)

pub returns-clause-ok : goal.returns-clause-ok
returns-clause-ok g c =
    let W : Work = g.F.SegmentRun.work c.self.inside.function in
    let outs : List Job = c.self.inside.outs in
    let ins : List Job = c.self.inside.ins in
    let both = entries_on-both W c.args.page outs ins in
    let count : c.in_ok-added.field-0 ≡ entries_of W (filter (is_on c.args.page) (outs ++ ins))
    = omega (arith, both, c.in_ok-added.ensures, c.in_ok-outs.ensures, c.in_ok-ins.ensures) in
    rw (← c.self.view_is) (subst (λ (n : ℕ). OnOk c.reserve.result (HasRoom n c.reserve.new.self)) count c.reserve.ensures.ok)

pub returns-clause-few : goal.returns-clause-few
returns-clause-few g c =
    rw (← c.self.view_is) (entries_on-few (g.F.SegmentRun.work c.self.inside.function) c.args.page c.self.inside.outs c.self.inside.ins)

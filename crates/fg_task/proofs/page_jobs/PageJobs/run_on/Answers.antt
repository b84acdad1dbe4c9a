use Rattle.std.proofs.Common.{List, sym, ap, subst, ◌∙◌}
use Rattle.std.specs.Prelude.{filter}
use Rattle.fg_task.specs.declared.job.Job.{Job}
use Rattle.fg_task.specs.Groups.{waiting}
use Rattle.fg_task.specs.Jobs.{Work, is_elsewhere, is_on}
use Rattle.fg_task.specs.Running.{CanRun, HasRun}
use Rattle.fg_task.proofs.GroupLaws.{are_groups-emptied, filter-left, filter-on}
use Rattle.fg_task.proofs.page_jobs.PageJobs.run_on.Goals as goal

pub run_groups-requires-clause-can : goal.run_groups-requires-clause-can
run_groups-requires-clause-can g c =
    let W : Work = g.F.SegmentRun.work c.args.function.now in
    rw c.deref-2.ensures.value (
    subst (λ (jobs : List Job). CanRun W c.args.bytes.now jobs c.args.outbox.now (g.T.Tally.entries c.args.tally.now))
    (ap (filter (is_on c.args.page)) (sym c.self.view_is) ∙ filter-on c.args.page c.self.inside.jobs.items c.self.inside.groups.items c.self.invariant.each)
    c.requires)

pub invariant_of-self : goal.invariant_of-self
invariant_of-self g c =
    rw c.run_groups.ensures.left (are_groups-emptied c.args.page c.self.inside.jobs.items c.self.inside.groups.items c.self.inside.ascending c.self.invariant)

pub returns-clause-left : goal.returns-clause-left
returns-clause-left g c =
    ap (waiting c.self.inside.jobs.items) c.run_groups.ensures.left
    ∙ sym (filter-left c.args.page c.self.inside.jobs.items c.self.inside.groups.items c.self.invariant.each)
    ∙ ap (filter (is_elsewhere c.args.page)) c.self.view_is

pub returns-clause-run : goal.returns-clause-run
returns-clause-run g c =
    let W : Work = g.F.SegmentRun.work c.args.function.now in
    subst (λ (jobs : List Job). HasRun W c.args.bytes.now jobs c.args.outbox.now c.run_groups.new.outbox
    (g.T.Tally.entries c.args.tally.now) (g.T.Tally.entries c.run_groups.new.tally) c.run_groups.result)
    (sym (filter-on c.args.page c.self.inside.jobs.items c.self.inside.groups.items c.self.invariant.each) ∙ ap (filter (is_on c.args.page)) c.self.view_is)
    (rw c.deref-2.ensures.value at c.run_groups.ensures.run)

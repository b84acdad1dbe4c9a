use Rattle.std.proofs.Common.{◌≡◌, List, sym, ap, subst, ◌∙◌}
use Rattle.std.specs.Prelude.{IfOk, filter}
use Rattle.fg_task.specs.declared.job.Job.{Job}
use Rattle.fg_task.specs.Jobs.{Work, is_on}
use Rattle.fg_task.specs.Running.{entries_of}
use Rattle.fg_task.proofs.GroupLaws.{filter-on}
use Rattle.fg_task.proofs.page_jobs.PageJobs.entries_on.Goals as goal

pub returns : goal.returns
returns g c =
    let W : Work = g.F.SegmentRun.work c.args.function.now in
    subst (λ (jobs : List Job). IfOk c.count_groups.result (λ count. count ≡ entries_of W jobs))
    (sym (filter-on c.args.page c.self.inside.jobs.items c.self.inside.groups.items c.self.invariant.each) ∙ ap (filter (is_on c.args.page)) c.self.view_is)
    (rw (c.deref-2.ensures.value, c.deref-3.ensures.value) at c.count_groups.ensures)

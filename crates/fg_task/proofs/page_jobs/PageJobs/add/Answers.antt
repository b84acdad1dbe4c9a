use Rattle.std.proofs.Common.{◌≡◌, ℕ, length, subst, arith}
use Rattle.fg_task.specs.Groups.{EndsAt}
use Rattle.fg_task.proofs.GroupLaws.{are_groups-longer, are_groups-pushed, waiting-longer, waiting-pushed}
use Rattle.fg_task.proofs.page_jobs.PageJobs.add.Goals as goal

pub invariant_of-self-then-ends_at : goal.invariant_of-self-then-ends_at
invariant_of-self-then-ends_at c =
    let jobs = c.self.inside.jobs.items in
    let groups = c.self.inside.groups.items in
    let count : c.len-at.result ≡ length jobs = omega (arith, c.len-at.ensures, c.self.inside.jobs.ok) in
    let ends = rw (c.deref.ensures.value, c.in_ok-reserve.ensures.items) at (c.ends_at.ensures c.if-ends_at.true) in
    let long = subst (λ (at : ℕ). EndsAt c.args.job.segment.page at groups) count ends in
    rw (c.in_ok-push.ensures.items, c.lengthen.ensures, c.in_ok-reserve.ensures.items, count)
    (are_groups-longer jobs c.args.job groups long c.self.invariant.each c.self.inside.ascending c.self.invariant.ascends)

pub returns-then-ends_at-clause-ok : goal.returns-then-ends_at-clause-ok
returns-then-ends_at-clause-ok c =
    let jobs = c.self.inside.jobs.items in
    let groups = c.self.inside.groups.items in
    let count : c.len-at.result ≡ length jobs = omega (arith, c.len-at.ensures, c.self.inside.jobs.ok) in
    let ends = rw (c.deref.ensures.value, c.in_ok-reserve.ensures.items) at (c.ends_at.ensures c.if-ends_at.true) in
    let long = subst (λ (at : ℕ). EndsAt c.args.job.segment.page at groups) count ends in
    rw (← c.self.view_is) (rw (c.in_ok-push.ensures.items, c.lengthen.ensures, c.in_ok-reserve.ensures.items, count)
    (waiting-longer jobs c.args.job groups long c.self.invariant.each))

pub invariant_of-self-2 : goal.invariant_of-self-2
invariant_of-self-2 c =
    let jobs = c.self.inside.jobs.items in
    let groups = c.self.inside.groups.items in
    let count : c.len-at.result ≡ length jobs = omega (arith, c.len-at.ensures, c.self.inside.jobs.ok) in
    let behind = rw (c.deref-2.ensures.value, c.in_ok-reserve.ensures.items) at c.still_ascends-self-inside.ensures in
    rw (c.in_ok-push.ensures.items, c.push_reserved.ensures.items, c.in_ok-reserve.ensures.items, count)
    (are_groups-pushed jobs c.args.job groups c.self.inside.ascending c.still_ascends-self-inside.result c.self.invariant behind)

pub returns-clause-ok : goal.returns-clause-ok
returns-clause-ok c =
    let jobs = c.self.inside.jobs.items in
    let groups = c.self.inside.groups.items in
    let count : c.len-at.result ≡ length jobs = omega (arith, c.len-at.ensures, c.self.inside.jobs.ok) in
    rw (← c.self.view_is) (rw (c.in_ok-push.ensures.items, c.push_reserved.ensures.items, c.in_ok-reserve.ensures.items, count)
    (waiting-pushed jobs c.args.job groups c.self.invariant.each))

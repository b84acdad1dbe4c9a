use Rattle.std.proofs.Common.{◌≡◌, ◌<◌, List, length, refl, ◌≤◌, ◌∙◌, arith}
use Rattle.fg_task.specs.declared.group.Group.{Group}
use Rattle.fg_task.specs.Groups.{IsGroup, group_at}
use Rattle.fg_task.proofs.GroupLaws.{begins-emptied, emptied-skip, emptied-step, ends-emptied}
use Rattle.fg_task.proofs.GroupRunLaws.{group-can_run, group-has_run, group-is, group-read, group-skipped, groups-begin, groups-end}
use Rattle.fg_task.proofs.running.run_groups.Goals as goal

pub loop-at-init : goal.loop-at-init
loop-at-init g c =
    let groups : List Group = c.args.groups.now.items in
    let within : c.args.places.from ≤ length groups = omega (arith, c.requires.within.0, c.requires.within.1) in
    record {
      within = c.requires.within.0;
      left = begins-emptied c.args.page c.args.jobs.now groups c.args.places c.requires.outside within;
      run = groups-begin (g.F.SegmentRun.work c.args.function.now) c.args.bytes.now c.args.page c.args.jobs.now groups c.args.places c.requires.outside within
          c.args.outbox.now (g.T.Tally.entries c.args.tally.now);
      runs = refl;
    }

pub loop-at-preserved-then-group-page : goal.loop-at-preserved-then-group-page
loop-at-preserved-then-group-page g c =
    let groups : List Group = c.args.groups.now.items in
    let group : Group = c.index-group.result.now in
    let below : c.loop-at.at < length groups = omega (arith, c.loop-at-test.true, c.requires.within.1) in
    let is : group_at groups c.loop-at.at ≡ group = group-read c.args.page groups c.loop-at.groups.items c.loop-at.at group below c.loop-at.invariant.left c.index-group.ensures in
    record {
      within = omega (arith, c.loop-at-test.true);
      left = c.loop-at.invariant.left ∙ emptied-skip c.args.page c.args.jobs.now groups c.loop-at.at group below is c.if-group-page.true;
      run = group-skipped (g.F.SegmentRun.work c.args.function.now) c.args.bytes.now c.args.page c.args.jobs.now groups c.loop-at.at group below is
          c.args.outbox.now c.loop-at.outbox (g.T.Tally.entries c.args.tally.now) (g.T.Tally.entries c.loop-at.tally) c.loop-at.bad c.loop-at.invariant.run c.if-group-page.true;
      runs = c.loop-at.invariant.runs;
    }

-- the group is one, so its jobs are there
pub offset_bounds-jobs-group : goal.offset_bounds-jobs-group
offset_bounds-jobs-group g c =
    let groups : List Group = c.args.groups.now.items in
    let group : Group = c.index-group.result.now in
    let below : c.loop-at.at < length groups = omega (arith, c.loop-at-test.true, c.requires.within.1) in
    let is : group_at groups c.loop-at.at ≡ group = group-read c.args.page groups c.loop-at.groups.items c.loop-at.at group below c.loop-at.invariant.left c.index-group.ensures in
    let one : IsGroup c.args.jobs.now group = group-is c.args.jobs.now groups c.loop-at.at group below is c.requires.groups in
    omega (arith, one.order, one.within)

pub slice_bounds-run_jobs-count : goal.slice_bounds-run_jobs-count
slice_bounds-run_jobs-count g c =
    let groups : List Group = c.args.groups.now.items in
    let group : Group = c.index-group.result.now in
    let below : c.loop-at.at < length groups = omega (arith, c.loop-at-test.true, c.requires.within.1) in
    let is : group_at groups c.loop-at.at ≡ group = group-read c.args.page groups c.loop-at.groups.items c.loop-at.at group below c.loop-at.invariant.left c.index-group.ensures in
    let one : IsGroup c.args.jobs.now group = group-is c.args.jobs.now groups c.loop-at.at group below is c.requires.groups in
    one.order

pub slice_bounds-run_jobs-start : goal.slice_bounds-run_jobs-start
slice_bounds-run_jobs-start g c =
    let groups : List Group = c.args.groups.now.items in
    let group : Group = c.index-group.result.now in
    let below : c.loop-at.at < length groups = omega (arith, c.loop-at-test.true, c.requires.within.1) in
    let is : group_at groups c.loop-at.at ≡ group = group-read c.args.page groups c.loop-at.groups.items c.loop-at.at group below c.loop-at.invariant.left c.index-group.ensures in
    let one : IsGroup c.args.jobs.now group = group-is c.args.jobs.now groups c.loop-at.at group below is c.requires.groups in
    one.order

pub slice_bounds-run_jobs-end : goal.slice_bounds-run_jobs-end
slice_bounds-run_jobs-end g c =
    let groups : List Group = c.args.groups.now.items in
    let group : Group = c.index-group.result.now in
    let below : c.loop-at.at < length groups = omega (arith, c.loop-at-test.true, c.requires.within.1) in
    let is : group_at groups c.loop-at.at ≡ group = group-read c.args.page groups c.loop-at.groups.items c.loop-at.at group below c.loop-at.invariant.left c.index-group.ensures in
    let one : IsGroup c.args.jobs.now group = group-is c.args.jobs.now groups c.loop-at.at group below is c.requires.groups in
    one.within

pub run_jobs-found-requires : goal.run_jobs-found-requires
run_jobs-found-requires g c =
    let groups : List Group = c.args.groups.now.items in
    let group : Group = c.index-group.result.now in
    let below : c.loop-at.at < length groups = omega (arith, c.loop-at-test.true, c.requires.within.1) in
    let is : group_at groups c.loop-at.at ≡ group = group-read c.args.page groups c.loop-at.groups.items c.loop-at.at group below c.loop-at.invariant.left c.index-group.ensures in
    group-can_run (g.F.SegmentRun.work c.args.function.now) c.args.bytes.now c.args.page c.args.jobs.now groups c.loop-at.at group below is
    c.args.outbox.now c.loop-at.outbox (g.T.Tally.entries c.args.tally.now) (g.T.Tally.entries c.loop-at.tally) c.loop-at.bad c.loop-at.invariant.run c.if-group-page.false c.requires.can

pub loop-at-preserved : goal.loop-at-preserved
loop-at-preserved g c =
    let groups : List Group = c.args.groups.now.items in
    let group : Group = c.index-group.result.now in
    let below : c.loop-at.at < length groups = omega (arith, c.loop-at-test.true, c.requires.within.1) in
    let is : group_at groups c.loop-at.at ≡ group = group-read c.args.page groups c.loop-at.groups.items c.loop-at.at group below c.loop-at.invariant.left c.index-group.ensures in
    record {
      within = omega (arith, c.loop-at-test.true);
      left = emptied-step c.args.page groups c.loop-at.groups.items c.loop-at.at group below c.loop-at.invariant.left c.index-group.ensures c.if-group-page.false;
      run = group-has_run (g.F.SegmentRun.work c.args.function.now) c.args.bytes.now c.args.page c.args.jobs.now groups c.loop-at.at group below is
          c.args.outbox.now c.loop-at.outbox (g.T.Tally.entries c.args.tally.now) (g.T.Tally.entries c.loop-at.tally) c.loop-at.bad c.loop-at.invariant.run c.if-group-page.false
          c.run_jobs-found.new.outbox (g.T.Tally.entries c.run_jobs-found.new.tally) c.run_jobs-found.result c.lesser-bad.result c.run_jobs-found.ensures.run c.lesser-bad.ensures;
      runs = c.run_jobs-found.ensures.runs ∙ c.loop-at.invariant.runs;
    }

pub returns-clause-left : goal.returns-clause-left
returns-clause-left g c =
    let groups : List Group = c.args.groups.now.items in
    let end : c.loop-at.at ≡ c.args.places.to = omega (arith, c.loop-at-test.false, c.loop-at.invariant.within) in
    rw end at c.loop-at.invariant.left ∙ ends-emptied c.args.page c.args.jobs.now groups c.args.places c.requires.outside

pub returns-clause-run : goal.returns-clause-run
returns-clause-run g c =
    let groups : List Group = c.args.groups.now.items in
    let end : c.loop-at.at ≡ c.args.places.to = omega (arith, c.loop-at-test.false, c.loop-at.invariant.within) in
    groups-end (g.F.SegmentRun.work c.args.function.now) c.args.bytes.now c.args.page c.args.jobs.now groups c.args.places c.requires.outside
    c.args.outbox.now c.loop-at.outbox (g.T.Tally.entries c.args.tally.now) (g.T.Tally.entries c.loop-at.tally) c.loop-at.bad (rw end at c.loop-at.invariant.run)

use Rattle.std.proofs.Common.{◌≡◌, ℕ, ◌≤◌, List, length, take, sym, ap, ◌∙◌, arith}
use Rattle.fg_task.specs.declared.group.Group.{Group}
use Rattle.fg_task.specs.Groups.{waiting_on}
use Rattle.fg_task.specs.Jobs.{Work}
use Rattle.fg_task.specs.Running.{entries_of}
use Rattle.fg_task.proofs.GroupLaws.{begins-waiting, ends-waiting}
use Rattle.fg_task.proofs.counting.count_groups.Goals as goal

pub loop-at-init : goal.loop-at-init
loop-at-init g c =
    let W : Work = g.F.SegmentRun.work c.args.function.now in
    let groups : List Group = c.args.groups.now in
    let within : c.args.places.from ≤ length groups = omega (arith, c.requires.within.0, c.requires.within.1) in
    record {
      within = c.requires.within.0;
      counted = sym (ap (entries_of W) (begins-waiting c.args.page c.args.jobs.now groups c.args.places c.requires.outside within));
    }

pub returns : goal.returns
returns g c =
    let W : Work = g.F.SegmentRun.work c.args.function.now in
    let groups : List Group = c.args.groups.now in
    let ended : c.loop-at.at ≡ c.args.places.to = omega (arith, c.loop-at.invariant.within, c.loop-at-test.false) in
    c.loop-at.invariant.counted
    ∙ ap (λ (at : ℕ). entries_of W (waiting_on c.args.page c.args.jobs.now (take at groups))) ended
    ∙ ap (entries_of W) (ends-waiting c.args.page c.args.jobs.now groups c.args.places c.requires.outside)

use Rattle.std.proofs.Common.{List, sym, subst}
use Rattle.std.specs.Prelude.{All, filter}
use Rattle.std.proofs.lemmas.List.Elements.{All-filter}
use Rattle.fg_task.specs.declared.job.Job.{Job}
use Rattle.fg_task.specs.Jobs.{IsJob, Work, is_elsewhere, is_on}
use Rattle.fg_task.proofs.BlockLaws.{block-can, block-ran}
use Rattle.fg_task.proofs.CountLaws.{counted-fewer}
use Rattle.fg_task.proofs.RunLaws.{can_run-first, can_run-next}
use Rattle.fg_task.proofs.book.TaskBook.run_on.Goals as goal

pub run_on-first-requires : goal.run_on-first-requires
run_on-first-requires g c =
    let W : Work = g.F.SegmentRun.work c.self.inside.function in
    let outs : List Job = c.self.inside.outs in
    let ins : List Job = c.self.inside.ins in
    can_run-first W c.args.bytes.now (filter (is_on c.args.page) outs) (filter (is_on c.args.page) ins) c.args.outbox.now (g.T.Tally.entries c.args.tally.now)
    (block-can W c.args.bytes.now c.args.page outs ins c.args.outbox.now (g.T.Tally.entries c.args.tally.now) c.self.invariant c.requires.page
    (rw (← c.self.view_is) at c.requires.vertices) (rw (← c.self.view_is) at c.requires.room) (rw (← c.self.view_is) at c.requires.counted))

pub run_on-second-requires : goal.run_on-second-requires
run_on-second-requires g c =
    let W : Work = g.F.SegmentRun.work c.self.inside.function in
    let outs : List Job = c.self.inside.outs in
    let ins : List Job = c.self.inside.ins in
    can_run-next W c.args.bytes.now (filter (is_on c.args.page) outs) (filter (is_on c.args.page) ins) c.args.outbox.now c.run_on-first.new.outbox
    (g.T.Tally.entries c.args.tally.now) (g.T.Tally.entries c.run_on-first.new.tally) c.run_on-first.result
    (block-can W c.args.bytes.now c.args.page outs ins c.args.outbox.now (g.T.Tally.entries c.args.tally.now) c.self.invariant c.requires.page
    (rw (← c.self.view_is) at c.requires.vertices) (rw (← c.self.view_is) at c.requires.room) (rw (← c.self.view_is) at c.requires.counted))
    c.run_on-first.ensures.run

pub invariant_of-self : goal.invariant_of-self
invariant_of-self g c =
    let W : Work = g.F.SegmentRun.work c.self.inside.function in
    let outs : List Job = c.self.inside.outs in
    let ins : List Job = c.self.inside.ins in (
      subst (All (IsJob W)) (sym c.run_on-first.ensures.left) (All-filter (is_elsewhere c.args.page) (IsJob W) outs c.self.invariant.0),
      subst (All (IsJob W)) (sym c.run_on-second.ensures.left) (All-filter (is_elsewhere c.args.page) (IsJob W) ins c.self.invariant.1),
    )

pub returns-clause-room : goal.returns-clause-room
returns-clause-room g c =
    let W : Work = g.F.SegmentRun.work c.self.inside.function in
    let ran = block-ran W c.args.bytes.now c.args.page c.self.inside.outs c.self.inside.ins c.args.outbox.now c.run_on-first.new.outbox c.run_on-second.new.outbox
    (g.T.Tally.entries c.args.tally.now) (g.T.Tally.entries c.run_on-first.new.tally) (g.T.Tally.entries c.run_on-second.new.tally)
    c.run_on-first.result c.run_on-second.result c.lesser.result c.run_on-first.ensures.run c.run_on-second.ensures.run c.lesser.ensures in
    rw (← c.self.view_is) ran.room

pub returns-clause-fewer : goal.returns-clause-fewer
returns-clause-fewer g c =
    let W : Work = g.F.SegmentRun.work c.self.inside.function in
    let ran = block-ran W c.args.bytes.now c.args.page c.self.inside.outs c.self.inside.ins c.args.outbox.now c.run_on-first.new.outbox c.run_on-second.new.outbox
    (g.T.Tally.entries c.args.tally.now) (g.T.Tally.entries c.run_on-first.new.tally) (g.T.Tally.entries c.run_on-second.new.tally)
    c.run_on-first.result c.run_on-second.result c.lesser.result c.run_on-first.ensures.run c.run_on-second.ensures.run c.lesser.ensures in
    rw (← c.self.view_is) (rw (c.run_on-first.ensures.left, c.run_on-second.ensures.left)
    (counted-fewer W c.args.page c.self.inside.outs c.self.inside.ins c.args.bytes.now
    (g.T.Tally.entries c.args.tally.now) (g.T.Tally.entries c.run_on-second.new.tally) ran.entries))

pub returns-clause-bad : goal.returns-clause-bad
returns-clause-bad g c =
    let W : Work = g.F.SegmentRun.work c.self.inside.function in
    let ran = block-ran W c.args.bytes.now c.args.page c.self.inside.outs c.self.inside.ins c.args.outbox.now c.run_on-first.new.outbox c.run_on-second.new.outbox
    (g.T.Tally.entries c.args.tally.now) (g.T.Tally.entries c.run_on-first.new.tally) (g.T.Tally.entries c.run_on-second.new.tally)
    c.run_on-first.result c.run_on-second.result c.lesser.result c.run_on-first.ensures.run c.run_on-second.ensures.run c.lesser.ensures in
    rw (← c.self.view_is) ran.least

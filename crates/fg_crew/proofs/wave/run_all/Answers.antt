use Rattle.fg_crew.specs.Claimed.{plan_of}
use Rattle.fg_crew.proofs.KeptLaws.{seated_ready, worked_since}
use Rattle.fg_crew.proofs.wave.run_all.Goals as goal

pub all_at_once-requires-clause-ready : goal.all_at_once-requires-clause-ready
all_at_once-requires-clause-ready g c κs within =
    let runs = g.B.RunsBlock in
    let wave = c.args.wave.now in
    seated_ready (plan_of runs.blocks wave) wave.claims (runs.lends wave.runner.now) runs.spent c.args.slots.now c.seat_all.new.slots c.seat_all.ensures.kept c.seat_all.ensures.fresh c.requires.lent
    c.requires.room

pub returns-clause-worked : goal.returns-clause-worked
returns-clause-worked g c =
    let runs = g.B.RunsBlock in
    let wave = c.args.wave.now in
    worked_since (plan_of runs.blocks wave) wave.claims (runs.lends wave.runner.now) runs.spent c.args.slots.now c.seat_all.new.slots c.seat_all.ensures.kept (runs.caused wave.runner.now)
    c.all_at_once.new.slots c.all_at_once.ensures

use Rattle.fg_gather.proofs.GatherLaws.{is_iterated}
use Rattle.fg_gather.specs.Arrivals.{held_in_each}
use Rattle.fg_gather.proofs.inboxes.Inboxes.gather.Goals as goal

pub returns : goal.returns
returns g c =
    let states = rw (← c.self.view_is) at c.requires.states in
    let marks = rw (← c.self.view_is) at c.requires.marks in
    let gathered = rw (← c.self.view_is) at c.gather_all.ensures in
    rw (← c.self.view_is) (is_iterated (g.P.Program.rules c.self.inside.program.now) c.know_law.ensures c.self.inside.map c.args.phase (held_in_each c.self.inside.boxes.items)
    c.args.marks.now c.args.states.now c.gather_all.new.states c.ranges.phase.fits states marks gathered)

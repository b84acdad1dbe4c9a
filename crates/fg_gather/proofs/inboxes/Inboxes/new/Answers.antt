use Rattle.fg_gather.proofs.ArrivalsLaws.{none-came}
use Rattle.fg_gather.proofs.InboxesLaws.{none-to_any}
use Rattle.fg_gather.specs.Arrivals.{held_in_each}
use Rattle.fg_gather.proofs.inboxes.Inboxes.new.Goals as goal

pub returns-clause-none : goal.returns-clause-none
returns-clause-none g c =
    let boxes = c.in_ok-boxes.boxes.items in
    none-came (g.P.Program.rules c.args.program.now) c.args.map (held_in_each boxes) (λ v vertex. none-to_any c.args.map boxes c.in_ok-boxes.ensures.none v)

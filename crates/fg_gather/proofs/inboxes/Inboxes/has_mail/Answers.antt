use Rattle.std.proofs.Common.{◌-◌, ◌*◌, ◌∙◌, arith}
use Rattle.fg_gather.proofs.InboxesLaws.{number-within, read-size, vertex-read}
use Rattle.fg_part.specs.PartMap.{block_size}
use Rattle.fg_gather.proofs.inboxes.Inboxes.has_mail.Goals as goal

pub has_mail-requires : goal.has_mail-requires
has_mail-requires g c =
    let below = rw (← c.self.view_is) at c.requires in
    number-within c.self.inside.program.now c.self.inside.map c.self.inside.boxes.items c.self.invariant c.args.block c.index.result.now below c.index.ensures

pub returns : goal.returns
returns g c clear =
    let below = rw (← c.self.view_is) at c.requires in
    let map = c.self.inside.map in
    let program = c.self.inside.program.now in
    let boxes = c.self.inside.boxes.items in
    let inbox = c.index.result.now in
    rw (← c.self.view_is) (λ v stands.
    let size = read-size program map boxes c.self.invariant c.args.block inbox below c.index.ensures in
    vertex-read program map boxes c.self.invariant c.args.block inbox below c.index.ensures v stands
    ∙ c.has_mail.ensures clear (v - c.args.block * block_size map) (omega (arith, size, stands.after, stands.before)))

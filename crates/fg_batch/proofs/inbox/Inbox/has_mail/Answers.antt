use Rattle.std.proofs.Common.{◌≡◌, Bool, false, get_or, ap, sym, ◌∙◌}
use Rattle.fg_batch.proofs.BlockLaws.{none-unflagged}
use Rattle.fg_batch.proofs.inbox.Inbox.has_mail.Goals as goal

pub returns : goal.returns
returns g c clear k below =
    let flags = c.self.inside.flags.items in
    let bare : get_or flags c.args.number false ≡ false = ap (λ (d : Bool). get_or flags c.args.number d) (sym clear) ∙ sym c.index.ensures ∙ clear in
    let inside = rw (← c.self.view_is) at below in
    rw (← c.self.view_is) (none-unflagged c.self.inside.map c.self.inside.numbers.items c.self.inside.came.items flags c.args.number c.self.invariant.flagged bare k inside)

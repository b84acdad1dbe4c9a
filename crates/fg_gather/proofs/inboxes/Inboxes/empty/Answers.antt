use Rattle.std.proofs.Common.{◌≡◌, [], List, length, ap, sym, subst, ◌∙◌, arith}
use Rattle.fg_gather.proofs.ArrivalsLaws.{none-came}
use Rattle.fg_gather.proofs.InboxesLaws.{emptied-none, none-to_any, whole-again}
use Rattle.fg_gather.specs.Arrivals.{HasCome, held_in_each}
use Rattle.fg_gather.proofs.inboxes.Inboxes.empty.Goals as goal

pub returns-clause-none : goal.returns-clause-none
returns-clause-none g c =
    let P = g.P.Program.rules c.self.inside.program.now in
    let map = c.self.inside.map in
    let old = c.self.inside.boxes.items in
    let new = c.empty_all.new.boxes in
    let each = rw c.deref_mut.ensures.value at c.empty_all.ensures.each in
    let long : length new ≡ length old = c.empty_all.ensures.count ∙ ap length c.deref_mut.ensures.value in
    let whole = whole-again new old c.self.inside.boxes.len (omega (arith, long, c.self.inside.boxes.ok.0)) in
    rw (← c.self.view_is) (subst (λ (boxes : List _). HasCome P map (held_in_each boxes) []) (sym whole)
    (none-came P map (held_in_each new) (λ v vertex. none-to_any map new (emptied-none c.self.inside.program.now map old new c.self.invariant long each) v)))

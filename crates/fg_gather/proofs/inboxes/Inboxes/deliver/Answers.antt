use Rattle.std.proofs.Common.{◌≡◌, ◌++◌, List, length, ap, sym, subst, ◌∙◌, arith}
use Rattle.fg_gather.proofs.ArrivalsLaws.{came-more}
use Rattle.fg_gather.proofs.InboxesLaws.{count-of, delivered-inboxes, delivered-took, whole-again}
use Rattle.fg_gather.specs.Arrivals.{AreInboxes, HasCome, held_in_each}
use Rattle.fg_gather.specs.Deliver.{batches_in}
use Rattle.fg_batch.specs.Outbox.{mail_in}
use Rattle.fg_gather.proofs.inboxes.Inboxes.deliver.Goals as goal

pub invariant_of-self : goal.invariant_of-self
invariant_of-self g c =
    let old = c.self.inside.boxes.items in
    let new = c.deliver_all.new.boxes in
    let each = rw c.deref_mut.ensures.value at c.deliver_all.ensures.each in
    let long : length new ≡ length old = c.deliver_all.ensures.count ∙ ap length c.deref_mut.ensures.value in
    let whole = whole-again new old c.self.inside.boxes.len (omega (arith, long, c.self.inside.boxes.ok.0)) in
    subst (AreInboxes c.self.inside.program.now c.self.inside.map) (sym whole)
    (delivered-inboxes g.P.Program.rules c.self.inside.program.now c.self.inside.map old new (batches_in c.args.wave.now) c.self.invariant long each)

pub returns-clause-came : goal.returns-clause-came
returns-clause-came g c before numbers has =
    let P = g.P.Program.rules c.self.inside.program.now in
    let map = c.self.inside.map in
    let old = c.self.inside.boxes.items in
    let new = c.deliver_all.new.boxes in
    let batches = batches_in c.args.wave.now in
    let each = rw c.deref_mut.ensures.value at c.deliver_all.ensures.each in
    let long : length new ≡ length old = c.deliver_all.ensures.count ∙ ap length c.deref_mut.ensures.value in
    let whole = whole-again new old c.self.inside.boxes.len (omega (arith, long, c.self.inside.boxes.ok.0)) in
    let fit = rw (← c.self.view_is) at c.requires.fit in
    let come = rw (← c.self.view_is) at has in
    rw (← c.self.view_is) (subst (λ (boxes : List _). HasCome P map (held_in_each boxes) (before ++ mail_in batches)) (sym whole)
    (came-more P c.know_law.ensures map (held_in_each old) (held_in_each new) batches before (count-of c.self.inside.program.now map old c.self.invariant)
    (delivered-took g.P.Program.rules c.self.inside.program.now map old new batches c.self.invariant long each) fit numbers come))

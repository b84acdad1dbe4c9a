use Rattle.std.proofs.Common.{◌≡◌, Bool, List, length, subst, sym, ◌∙◌, arith}
use Rattle.fg_base.specs.declared.plain.VState.{VState}
use Rattle.fg_gather.specs.Gather.{KeepsOthers}
use Rattle.fg_gather.specs.Marks.{AreMarks}
use Rattle.fg_iter.proofs.StepLaws.{whole-again}
use Rattle.fg_iter.proofs.iterating.take_over.Goals as goal

pub returns-clause-marks : goal.returns-clause-marks
returns-clause-marks g c =
    let crew = c.args.crew.now in
    let inboxes = crew.inboxes in
    let are : List VState → List Bool → Type 0 = λ states marks. AreMarks (g.P.Program.rules inboxes.program) inboxes.map c.args.phase states marks in
    let keeps : List VState → Type 0 = λ states. KeepsOthers (g.P.Program.rules inboxes.program) inboxes.map c.args.phase inboxes.parts c.deref_mut.result.now states in
    let states_long : length c.gather.new.states ≡ crew.states.len = omega (arith, c.gather.auto.states, c.deref_mut.ensures.len) in
    let marks_long : length c.mark_again.new.marks ≡ crew.marks.len = omega (arith, c.mark_again.auto.marks, c.deref_mut-2.ensures.len) in
    let states = c.deref-2.ensures.value ∙ whole-again c.gather.new.states crew.states.items crew.states.len states_long in
    let before = subst (are c.deref_mut.result.now) (sym c.deref_mut-2.ensures.value) (subst (λ (old : List VState). are old crew.marks.items) (sym c.deref_mut.ensures.value) c.requires.marks) in
    let again = c.mark_again.ensures.again c.deref_mut.result.now before (subst keeps (sym states) c.gather.ensures.others) in
    subst (are _) (sym (whole-again c.mark_again.new.marks crew.marks.items crew.marks.len marks_long))
    (subst (λ (new : List VState). are new c.mark_again.new.marks) c.deref-2.ensures.value again)

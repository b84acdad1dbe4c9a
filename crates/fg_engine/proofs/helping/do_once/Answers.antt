use Rattle.std.proofs.Common.{Option, Some, refl, sym, subst, ◌∙◌}
use Rattle.fg_engine.specs.Helping.{HasDoneAll}
use Rattle.fg_engine.proofs.helping.do_once.Goals as goal

pub returns-clause-done : goal.returns-clause-done
returns-clause-done g c =
    subst (λ (work : Option g.row.F.Denot). HasDoneAll g.F.FnOnce work c.args.given.now c.args.one.now c.args.two.now c.work-done.result
    c.work-done.new.arg3 c.work-done.new.arg4) (sym (sym c.take.ensures.value ∙ c.in-Some.is))
    (subst (λ (given : Option g.row.G.Denot). HasDoneAll g.F.FnOnce (Some c.in-Some.work) given c.args.one.now c.args.two.now c.work-done.result
    c.work-done.new.arg3 c.work-done.new.arg4) (sym (sym c.take-2.ensures.value ∙ c.in-Some-take.is))
    (record { first = _; second = _; shows = (refl, refl); left = _; met = c.work-done.ensures; leaves = (refl, refl) }))

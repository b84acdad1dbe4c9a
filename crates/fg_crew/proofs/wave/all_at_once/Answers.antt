use Rattle.std.proofs.Common.{◌≡◌, arith, rules, subst, sym}
use denote.Param.Send.{sendable}
use Rattle.std.specs.Prelude.{slice_index_or}
use Rattle.fg_crew.specs.Claimed.{plan_of}
use Rattle.fg_crew.specs.Slots.{HasWorkedOn, IsReady}
use Rattle.fg_crew.proofs.wave.all_at_once.Goals as goal

-- what holds of two values holds of their equals
of_both : {X : Type 0} (R : X → X → Type 0) (a b x y : X) → a ≡ x → b ≡ y → R a b → R x y
of_both R a b x y left right held = subst (λ one. R one y) left (subst (R a) right held)

pub for_each_mut-requires-clause-accepts : goal.for_each_mut-requires-clause-accepts
for_each_mut-requires-clause-accepts g c κs within i p below is =
    let runs = g.B.RunsBlock in
    let wave = c.args.wave.now in
    let ready = IsReady (plan_of runs.blocks wave) wave.claims (runs.lends wave.runner.now) runs.spent in (
      (c.requires.dealt, omega (arith, c.requires.workers, below), subst ready (sym is) (c.requires.ready i p.now below)),
      (search sendable depth 20, search sendable depth 20, search rules, search rules),
    )

pub returns : goal.returns
returns g c =
    let runs = g.B.RunsBlock in
    record {
      count = omega (arith, c.for_each_mut.auto.s);
      each = λ k d below.
          let change = (c.for_each_mut.ensures k d below).1 in
          of_both (HasWorkedOn runs.blocks runs.lends runs.spent runs.caused c.args.wave.now) change.argument.now change.after_call.now
          (slice_index_or c.args.slots.now k d) (slice_index_or c.for_each_mut.new.s k d) change.argument_is change.left change.call;
    }

use Rattle.std.proofs.Common.{◌≡◌, ap, ◌∙◌, arith}
use Rattle.fg_iter.proofs.RingLaws.{opens_more}
use Rattle.fg_iter.specs.Ring.{opened}
use Rattle.fg_iter.proofs.tests.opening.Goals as goal

pub loop-v-init : goal.loop-v-init
loop-v-init c = record { states = c.new-states.ensures.items; few = omega arith }

pub loop-v-preserved : goal.loop-v-preserved
loop-v-preserved c = record {
  states = c.in_ok-push.ensures.items ∙ opens_more 3 c.loop-v.v c.loop-v.states.items c.init.result c.loop-v.invariant.states c.init.ensures;
  few = omega (arith, c.loop-v-test.true);
}

pub returns : goal.returns
returns c =
    let all : c.loop-v.v ≡ 29 = omega (arith, c.loop-v-test.false, c.loop-v.invariant.few) in
    c.loop-v.invariant.states ∙ ap (opened 3) all

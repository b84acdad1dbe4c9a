use Rattle.std.proofs.Common.{arith}
use Rattle.fg_engine.specs.Weights.{needed_degree}
use Rattle.fg_engine.proofs.WeightLaws.{sum-next}
use Rattle.fg_engine.proofs.weighing.needed_between.Goals as goal

pub overflow_add-entries : goal.overflow_add-entries
overflow_add-entries c =
    omega (arith, c.loop-v.invariant.few, c.needed_degree-entries.ensures.few, c.loop-v.auto.v-end, c.loop-v-test.true, c.requires.few)

pub loop-v-preserved : goal.loop-v-preserved
loop-v-preserved c = record {
  so_far = sum-next (needed_degree c.args.index.now c.args.need) c.args.first c.loop-v.v c.loop-v.entries c.needed_degree-entries.result
      (omega (arith, c.loop-v.auto.v)) c.loop-v.invariant.so_far c.needed_degree-entries.ensures.value;
  few = omega (arith, c.loop-v.invariant.few, c.needed_degree-entries.ensures.few, c.loop-v.auto.v);
}

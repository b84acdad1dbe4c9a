use Rattle.std.proofs.Common.{◌≡◌, ℕ, ◌+◌, ◌≤◌, length, refl, ap, arith}
use Rattle.fg_wave.specs.Cutting.{weight_of}
use Rattle.fg_wave.proofs.CuttingLaws.{needs-no_more, weight-more}
use Rattle.fg_wave.proofs.cutting.wave_end.Goals as goal

pub returns-in_default-checked_sub-clause-farthest : goal.returns-in_default-checked_sub-clause-farthest
returns-in_default-checked_sub-clause-farthest c below =
    let ordered : c.args.from ≤ c.loop-to.to = omega arith in
    let more = weight-more c.args.weights.now c.args.from c.loop-to.to (c.loop-to.to + 1) ordered refl in
    omega (arith, more, c.in_default-checked_sub.ensures)

pub returns-in_default-checked_sub-clause-bounded : goal.returns-in_default-checked_sub-clause-bounded
returns-in_default-checked_sub-clause-bounded c blocks list are long =
    let ordered : c.args.from ≤ c.loop-to.to = omega arith in
    let few = needs-no_more blocks list c.args.weights.now c.args.from c.loop-to.to are ordered (omega arith) in
    omega (arith, few)

pub loop-to-preserved : goal.loop-to-preserved
loop-to-preserved c =
    let ordered : c.args.from ≤ c.loop-to.to = omega arith in
    let more = weight-more c.args.weights.now c.args.from c.loop-to.to (c.loop-to.to + 1) ordered refl in
    record { the_end = c.loop-to.invariant.the_end; weighed = omega (arith, more, c.in-Some-checked_sub.ensures) }

pub returns-clause-bounded : goal.returns-clause-bounded
returns-clause-bounded c blocks list are long =
    let weights = c.args.weights.now in
    let ended : c.loop-to.to ≡ length weights = omega arith in
    let few = needs-no_more blocks list weights c.args.from (length weights) are (omega arith) (omega arith) in
    omega (arith, few, ap (λ (to : ℕ). weight_of weights c.args.from to) ended)

use Rattle.std.proofs.Common.{ℕ, ◌/◌, ◌<◌, length, arith, inl, inr, get_or-set_same, get_or-set_other, ◌∙◌, length-set}
use Rattle.std.proofs.lemmas.Bool.{cases_eq}
use Rattle.fg_batch.proofs.BitsLaws.{less_in, none_in}
use Rattle.fg_batch.proofs.bits.wipe.Goals as goal

pub loop-index-preserved : goal.loop-index-preserved
loop-index-preserved c =
    let words = c.loop-index.words.items in
    let at = c.loop-index.index in
    let kept = c.loop-index.invariant in
    let below : at < length words = omega (arith, kept.length, c.requires, c.loop-index-test.true) in
    record {
      length = length-set words at 0 ∙ kept.length;
      zeros = λ k from before.
          elim (cases_eq k at) [
            | inl same ↦ rw same (get_or-set_same words at 0 0 below)
            | inr other ↦ get_or-set_other words at k 0 0 other ∙ kept.zeros k from (omega (arith, before, other))
          ];
      less = λ k none. less_in words at k below (kept.less k none);
    }

pub returns-clause-inside : goal.returns-clause-inside
returns-clause-inside c k from below =
    none_in c.loop-index.words.items k (c.loop-index.invariant.zeros (k / 64) from (omega (arith, below, c.loop-index-test.false)))

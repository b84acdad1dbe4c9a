use Rattle.std.proofs.Common.{◌≡◌, ℕ, suc, ◌+◌, List, [], ◌∷◌, ◌++◌, sym, ap, ap₂, ◌∙◌, arith}
use Rattle.std.specs.List.{range_with_len}
use Rattle.fg_crew.proofs.TellingLaws.{range-more}
use Rattle.fg_wave.proofs.tests.all_blocks.Goals as goal

pub loop-block-preserved : goal.loop-block-preserved
loop-block-preserved c =
    let block = c.loop-block.block in
    let next : block + 1 ≡ suc block = omega arith in
    let here : block ≡ 0 + block = omega arith in
    c.in_ok-push.ensures.items ∙ ap₂ (λ (l : List ℕ) (b : ℕ). l ++ b ∷ []) c.loop-block.invariant here
    ∙ sym (ap (range_with_len 0) next ∙ range-more 0 block)

use Rattle.std.proofs.Common.{ℕ, ◌∷◌, ◌++◌, [], List, map as each, refl, ap, sym, ◌∙◌}
use Rattle.std.proofs.lemmas.List.{map-append}
use Rattle.std.specs.Prelude.{slice_index}
use Rattle.fg_iter.proofs.MarkedLaws.{marked-clear, marked-set, marked_to}
use Rattle.fg_iter.proofs.listing.list_marked.Goals as goal

pub loop-block-preserved-then-not-marks-block : goal.loop-block-preserved-then-not-marks-block
loop-block-preserved-then-not-marks-block c =
    let inv = c.loop-block.invariant in
    let same = sym (marked-clear c.args.marks.now c.loop-block.block c.if-not-marks-block.true) in
    record { the_end = refl; blocks = inv.blocks ∙ same; weights = inv.weights ∙ ap (each (slice_index c.args.weights.now)) same }

pub loop-block-preserved : goal.loop-block-preserved
loop-block-preserved c =
    let inv = c.loop-block.invariant in
    let block = c.loop-block.block in
    let weight : ℕ → ℕ = slice_index c.args.weights.now in
    let before = marked_to c.args.marks.now block in
    let more = sym (marked-set c.args.marks.now block c.if-not-marks-block.false) in
    record {
      the_end = refl;
      blocks = c.in_ok-push.ensures.blocks ∙ ap (λ (l : List ℕ). l ++ block ∷ []) inv.blocks ∙ more;
      weights = c.in_ok-push.ensures.weights ∙ ap (λ (l : List ℕ). l ++ weight block ∷ []) inv.weights ∙ sym (map-append weight before (block ∷ [])) ∙ ap (each weight) more;
    }

use Rattle.std.proofs.Common.{◌≡◌, ◌∙◌, ℕ, ◌+◌, ◌-◌, ◌*◌, ◌<◌, min, ap, sym, subst, arith}
use Rattle.std.specs.Int.{div_ceil}
use Rattle.std.specs.List.{range_with_len, sum_by}
use Rattle.fg_base.specs.declared.plain.Need.{Need}
use Rattle.fg_part.specs.PartMap.{block_size, block_total}
use Rattle.fg_engine.specs.Weights.{needed_degree}
use Rattle.fg_engine.proofs.WeightLaws.{AreWeighed, needed-count, weighed-more}
use Rattle.fg_engine.proofs.weighing.block_weights.Goals as goal

pub loop-block-preserved : goal.loop-block-preserved
loop-block-preserved g c =
    let P = g.P.Program.rules c.args.program.now in
    let opened = c.args.opened.now in
    let map = c.args.map in
    let block = c.loop-block.block in
    let weight = c.needed_between.result in
    let size = c.block_size-size.ensures.value in
    let below : block < block_total map = omega (arith, c.loop-block-test.true, c.div_ceil-blocks.ensures ∙ ap (div_ceil map.n) size) in
    let first : block * c.block_size-size.result ≡ block * block_size map = ap (λ (n : ℕ). block * n) size in
    let end : c.min-end.result ≡ min map.n (block * c.block_size-size.result + block_size map) =
    c.min-end.ensures ∙ ap (λ (n : ℕ). min map.n (block * c.block_size-size.result + n)) size in
    let is : weight ≡ sum_by (needed_degree opened.index P.need) (range_with_len (block * c.block_size-size.result) (c.min-end.result - block * c.block_size-size.result)) =
    c.needed_between.ensures ∙ ap (λ (need : Need). sum_by (needed_degree opened.index need) (range_with_len (block * c.block_size-size.result) (c.min-end.result - block * c.block_size-size.result))) c.need-need.ensures in
    subst (AreWeighed P opened map (block + 1)) (sym c.in_ok-push.ensures.items)
    (weighed-more P opened map block weight c.loop-block.weights.items c.loop-block.invariant
    (λ image. needed-count P opened image map block (block * c.block_size-size.result) c.min-end.result weight c.requires.map c.requires.fits.index.same_vertices below
    first end is))

pub returns : goal.returns
returns g c = λ image.
    let map = c.args.map in
    let all : c.loop-block.block ≡ block_total map = omega (arith, c.loop-block.auto.block-end, c.loop-block-test.false) ∙ c.div_ceil-blocks.ensures ∙ ap (div_ceil map.n) c.block_size-size.ensures.value in
    record {
      one_each = c.loop-block.invariant.count ∙ all;
      enough = λ block below. c.loop-block.invariant.right image block (omega (arith, below, all));
    }

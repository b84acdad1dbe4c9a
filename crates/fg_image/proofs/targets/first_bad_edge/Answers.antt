use Rattle.std.proofs.Common.{◌≡◌, ℕ, ◌<◌, true, false, List, length, refl, ap, sym, ◌∙◌, arith}
use Rattle.std.specs.Prelude.{Option, Some, None, find}
use Rattle.std.specs.Option.{is_some}
use Rattle.fg_base.specs.declared.plain.BadEdge.{BadEdge}
use Rattle.fg_base.specs.declared.plain.Dir.TheVariants.{Out, In}
use Rattle.fg_image.specs.Checking.{bad_edge_in}
use Rattle.fg_image.specs.Lists.{graph_by}
use Rattle.fg_image.proofs.SpanLaws.{begin_of-next, moved}
use Rattle.fg_image.proofs.TargetLaws.{bad_edge-by, first-in, first-out, found_below, listed, vertex-more}
use Rattle.fg_index.specs.ImageIndex.{ImageIndex, entry_bytes}
use Rattle.fg_model.specs.Iteration.{is_bad}
use Rattle.fg_stripe.specs.declared.layout.Layout.{Layout}
use Rattle.fg_image.proofs.targets.first_bad_edge.Goals as goal

none-there : (found : Option BadEdge) → false ≡ is_some found → found ≡ None
none-there None empty = refl
none-there (Some edge) empty = absurd (cc)

out-found : (layout : Layout) (index : ImageIndex) (image : List ℕ) (v : ℕ) (found : Option BadEdge) → true ≡ is_some found
    → found ≡ find (is_bad (length index.outs)) (listed layout index image Out v) → v < length index.outs → found_below layout index image v ≡ None
    → found ≡ bad_edge_in (graph_by layout index image)
out-found layout index image v None there is below none = absurd (cc)
out-found layout index image v (Some edge) there is below none = sym (first-out layout index image v edge below none (sym is))

in-found : (layout : Layout) (index : ImageIndex) (image : List ℕ) (v : ℕ) (found : Option BadEdge) → true ≡ is_some found
    → found ≡ find (is_bad (length index.outs)) (listed layout index image In v) → v < length index.outs → found_below layout index image v ≡ None
    → find (is_bad (length index.outs)) (listed layout index image Out v) ≡ None → found ≡ bad_edge_in (graph_by layout index image)
in-found layout index image v None there is below none outs = absurd (cc)
in-found layout index image v (Some edge) there is below none outs = sym (first-in layout index image v edge below none outs (sym is))

pub returns-then-is_some : goal.returns-then-is_some
returns-then-is_some c =
    let below : c.loop-v.v < length c.args.index.now.outs = omega (arith, c.loop-v-test.true, c.n-v-end.ensures.outs) in
    out-found c.args.layout.now c.args.index.now c.args.image.now c.loop-v.v c.bad_in_list-edge.result (sym c.if-is_some.true ∙ c.is_some.ensures)
    c.bad_in_list-edge.ensures below c.loop-v.invariant.none

pub returns-then-is_some-2 : goal.returns-then-is_some-2
returns-then-is_some-2 c =
    let below : c.loop-v.v < length c.args.index.now.outs = omega (arith, c.loop-v-test.true, c.n-v-end.ensures.outs) in
    let outs = none-there c.bad_in_list-edge.result (sym c.if-is_some.false ∙ c.is_some.ensures) in
    in-found c.args.layout.now c.args.index.now c.args.image.now c.loop-v.v c.bad_in_list-edge-in-loop-v.result (sym c.if-is_some-2.true ∙ c.is_some-in-loop-v.ensures)
    c.bad_in_list-edge-in-loop-v.ensures below c.loop-v.invariant.none (sym c.bad_in_list-edge.ensures ∙ outs)

pub loop-v-preserved : goal.loop-v-preserved
loop-v-preserved c =
    let layout = c.args.layout.now in
    let index = c.args.index.now in
    let v = c.loop-v.v in
    let below : v < length index.outs = omega (arith, c.loop-v-test.true, c.n-v-end.ensures.outs) in
    let below_in : v < length index.ins = omega (arith, below, c.requires.fits.same_vertices) in
    let size = c.entry_bytes-size.ensures.size ∙ ap entry_bytes c.weighted.ensures in
    let outs = none-there c.bad_in_list-edge.result (sym c.if-is_some.false ∙ c.is_some.ensures) in
    let ins = none-there c.bad_in_list-edge-in-loop-v.result (sym c.if-is_some-2.false ∙ c.is_some-in-loop-v.ensures) in
    record {
      none = vertex-more layout index c.args.image.now v c.loop-v.invariant.none (sym c.bad_in_list-edge.ensures ∙ outs) (sym c.bad_in_list-edge-in-loop-v.ensures ∙ ins);
      out_begin = moved _ _ _ _ _ _ _ c.loop-v.invariant.out_begin c.degree.ensures size (begin_of-next layout index Out v below);
      in_begin = moved _ _ _ _ _ _ _ c.loop-v.invariant.in_begin c.degree-in-loop-v.ensures size (begin_of-next layout index In v below_in);
    }

pub returns : goal.returns
returns c =
    let layout = c.args.layout.now in
    let index = c.args.index.now in
    let image = c.args.image.now in
    let all : c.loop-v.v ≡ length index.outs = omega (arith, c.loop-v-test.false, c.loop-v.auto.v-end, c.n-v-end.ensures.outs) in
    sym (bad_edge-by layout index image ∙ ap (found_below layout index image) (sym all) ∙ c.loop-v.invariant.none)

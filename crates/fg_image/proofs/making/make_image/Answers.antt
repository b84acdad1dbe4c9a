use Rattle.std.proofs.Common.{◌≡◌, ℕ, List, ◌++◌, length, map, sum, take, sym, ap, subst, ◌∙◌, arith}
use Rattle.std.specs.List.{range_with_len}
use Rattle.std.proofs.lemmas.Result.{IfOk-weaker}
use Rattle.fg_image.proofs.MakingLaws.{Counted, all_within, made_image, made_of, placed, sized}
use Rattle.fg_model.specs.declared.edges.Pair.{Pair}
use Rattle.fg_model.specs.Graph.{IsWithinLimits}
use Rattle.fg_model.specs.Mirror.{IsMirror}
use Rattle.fg_image.specs.Made.{graph_of_edges, image_bytes, spelled_direction}
use Rattle.fg_image.specs.Making.{IsImageOf, header_bytes, places_by}
use Rattle.fg_image.proofs.making.make_image.Goals as goal

pub starts_of-requires : goal.starts_of-requires
starts_of-requires c =
    let are = c.measure.ensures.within in
    let size = sized _ are _ _ (record { outs_are = c.in_ok-outs.ensures.outs; ins_are = c.in_ok-outs.ensures.ins }) in
    omega (arith, ap sum c.deref.ensures.value, size.sum_ins, are.pair_count)

pub with_ins-requires-clause-within : goal.with_ins-requires-clause-within
with_ins-requires-clause-within c =
    let are = c.measure.ensures.within in
    let counted : Counted _ are c.in_ok-outs.field-0.outs.items c.in_ok-outs.field-0.ins.items = record { outs_are = c.in_ok-outs.ensures.outs; ins_are = c.in_ok-outs.ensures.ins } in
    let found = c.in_ok-places.ensures ∙ ap (λ (l : List ℕ). map (λ v. sum (take v l)) (range_with_len 0 (length l))) c.deref.ensures.value in
    all_within _ are _ _ c.pairs-pairs.ensures.pairs (placed _ are _ _ _ counted found).each

pub with_ins-requires-clause-places : goal.with_ins-requires-clause-places
with_ins-requires-clause-places c =
    let are = c.measure.ensures.within in
    let counted : Counted _ are c.in_ok-outs.field-0.outs.items c.in_ok-outs.field-0.ins.items = record { outs_are = c.in_ok-outs.ensures.outs; ins_are = c.in_ok-outs.ensures.ins } in
    let found = c.in_ok-places.ensures ∙ ap (λ (l : List ℕ). map (λ v. sum (take v l)) (range_with_len 0 (length l))) c.deref.ensures.value in
    let by = placed _ are _ _ _ counted found in
    by.by ∙ ap (λ (l : List Pair). places_by (length c.in_ok-places.places.items) l) (sym c.pairs-pairs.ensures.pairs)

pub with_direction-requires : goal.with_direction-requires
with_direction-requires c =
    let are = c.measure.ensures.within in
    let size = sized _ are _ _ (record { outs_are = c.in_ok-outs.ensures.outs; ins_are = c.in_ok-outs.ensures.ins }) in
    omega (arith, ap length c.deref-2.ensures.value, size.each_out, are.vertex_count)

pub with_direction-requires-2 : goal.with_direction-requires-2
with_direction-requires-2 c =
    let are = c.measure.ensures.within in
    let size = sized _ are _ _ (record { outs_are = c.in_ok-outs.ensures.outs; ins_are = c.in_ok-outs.ensures.ins }) in
    omega (arith, ap length c.deref-3.ensures.value, size.each_in, are.vertex_count)

pub returns-clause-bytes : goal.returns-clause-bytes
returns-clause-bytes c =
    let outs = c.in_ok-outs.field-0.outs.items in
    let ins = c.in_ok-outs.field-0.ins.items in
    let pairs = c.pairs-pairs.result.now in
    let head =
    c.in_ok-image.ensures ∙ ap header_bytes c.in_ok-outs.ensures.header in
    IfOk-weaker c.padded-3.result _ (λ image. image.items ≡ image_bytes c.args.edges.now)
    (λ image last. made_of c.args.edges.now c.measure.ensures.within c.is_weighted-weighted.result pairs outs ins c.in_ok-places.places.items
    c.in_ok-image.image.items c.in_ok-with_outs.field-0.items c.in_ok-image-2.image.items c.in_ok-with_ins.field-0.items c.in_ok-image-3.image.items c.in_ok-image-4.image.items c.in_ok-image-5.image.items image.items
    c.is_weighted-weighted.ensures.weighted c.pairs-pairs.ensures.pairs
    (record {
      outs_counted = c.in_ok-outs.ensures.outs;
      ins_counted = c.in_ok-outs.ensures.ins;
      places_are = c.in_ok-places.ensures ∙ ap (λ (l : List ℕ). map (λ v. sum (take v l)) (range_with_len 0 (length l))) c.deref.ensures.value;
      head_is = head;
      outs_are = c.in_ok-with_outs.ensures;
      outs_padded = c.in_ok-image-2.ensures;
      ins_are = c.in_ok-with_ins.ensures;
      ins_padded = c.in_ok-image-3.ensures;
      first_are = c.in_ok-image-4.ensures ∙ ap (λ (l : List ℕ). c.in_ok-image-3.image.items ++ spelled_direction l) c.deref-2.ensures.value;
      second_are = c.in_ok-image-5.ensures ∙ ap (λ (l : List ℕ). c.in_ok-image-4.image.items ++ spelled_direction l) c.deref-3.ensures.value;
      image_is = last;
    }))
    c.padded-3.ensures

pub returns-clause-image : goal.returns-clause-image
returns-clause-image c =
    let made = made_image c.args.edges.now c.measure.ensures.within in
    let P : List ℕ → Type 0 = λ bytes. IsImageOf (graph_of_edges c.args.edges.now) bytes in
    IfOk-weaker c.padded-3.result _ (λ image. IsImageOf (graph_of_edges c.args.edges.now) image.items)
    (λ image same. subst P (sym same) (made.0, made.1.is_image, made.1.graph))
    (returns-clause-bytes c)

pub returns-clause-limits : goal.returns-clause-limits
returns-clause-limits c =
    IfOk-weaker c.padded-3.result _ (λ image. IsWithinLimits (graph_of_edges c.args.edges.now)) (λ image same. (made_image c.args.edges.now c.measure.ensures.within).1.limits) c.padded-3.ensures

pub returns-clause-mirror : goal.returns-clause-mirror
returns-clause-mirror c =
    IfOk-weaker c.padded-3.result _ (λ image. IsMirror (graph_of_edges c.args.edges.now)) (λ image same. (made_image c.args.edges.now c.measure.ensures.within).1.mirror) c.padded-3.ensures

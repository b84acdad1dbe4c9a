use Rattle.std.proofs.Common.{◌≡◌, ℕ, ◌<◌, List, [], ◌∷◌, ◌++◌, length, map, sym, ap, ◌∙◌, arith}
use Rattle.std.specs.List.{range_with_len}
use Rattle.std.proofs.lemmas.List.FromFn.{map-range_with_len_more}
use Rattle.fg_base.specs.declared.plain.Entry.{Entry}
use Rattle.fg_image.specs.Lists.{begin_of, entries_at, list_of}
use Rattle.fg_image.proofs.SpanLaws.{begin_of-next, each_degree, moved}
use Rattle.fg_index.specs.ImageIndex.{degrees_in, entry_bytes}
use Rattle.fg_image.proofs.cut.cut_rows.Goals as goal

pub loop-v-preserved : goal.loop-v-preserved
loop-v-preserved c =
    let layout = c.args.layout.now in
    let index = c.args.index.now in
    let image = c.args.image.now in
    let dir = c.args.dir in
    let v = c.loop-v.v in
    let list = list_of layout index image dir in
    let within : v < length (degrees_in index dir) = omega (arith, c.loop-v-test.true, c.n-v-end.ensures.outs, each_degree layout index dir c.requires.fits) in
    let row : c.in_ok-row.row ≡ list v =
    c.in_ok-row.ensures
    ∙ ap (λ w. entries_at w image c.loop-v.place c.degree-degree.result) c.weighted-in-loop-v.ensures
    ∙ ap (λ (at : ℕ). entries_at index.weighted image at c.degree-degree.result) c.loop-v.invariant.place
    ∙ ap (λ (count : ℕ). entries_at index.weighted image (begin_of layout index dir v) count) c.degree-degree.ensures in
    let size = c.entry_bytes-size.ensures.size ∙ ap entry_bytes c.weighted.ensures in
    record {
      rows =
          c.in_ok-push.ensures.items
          ∙ ap (λ (rows : List (List Entry)). rows ++ c.in_ok-row.row ∷ []) c.loop-v.invariant.rows
          ∙ ap (λ (last : List Entry). map list (range_with_len 0 v) ++ last ∷ []) row
          ∙ sym (map-range_with_len_more list 0 v v (omega arith));
      place = moved _ _ _ _ _ _ _ c.loop-v.invariant.place c.degree-degree.ensures size (begin_of-next layout index dir v within);
    }

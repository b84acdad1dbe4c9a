-- What the degrees alone tell: how long the lists of a graph are, and with which states a run on it begins.
use Rattle.std.proofs.Common.{◌≡◌, ℕ, ◌<◌, List, [], length, map, refl, sym, ap, ◌∙◌, arith}
use Rattle.std.specs.List.{range_with_len, slice_index}
use Rattle.std.proofs.lemmas.List.{same_lists}
use Rattle.std.proofs.lemmas.List.FromFn.{get_or-map-range_with_len, length-map-range_with_len}
use Rattle.fg_base.specs.declared.plain.Dir.{Dir}
use Rattle.fg_base.specs.declared.plain.Entry.{Entry}
use Rattle.fg_base.specs.declared.plain.VState.{VState}
use Rattle.fg_build.specs.declared.opened.Opened.{Opened}
use Rattle.fg_build.specs.ToldImage.{graph_over}
use Rattle.fg_image.proofs.EntryLaws.{length-entries_at}
use Rattle.fg_image.specs.Lists.{begin_of, graph_by, list_of, rows_of}
use Rattle.fg_index.specs.ImageIndex.{degrees_in}
use Rattle.fg_model.specs.Graph.{row}
use Rattle.fg_model.specs.Program.{Rules}
use Rattle.fg_model.specs.Run.{opening_states}

-- the first opening states, by the degrees
abbrev pub opening_below : Rules → Opened → ℕ → List VState
opening_below P opened v = map (λ w. P.init w (slice_index opened.index.outs w) (slice_index opened.index.ins w)) (range_with_len 0 v)

-- a list is as long as the degree says
pub length-row : (opened : Opened) (image : List ℕ) (dir : Dir) (v : ℕ) → v < length opened.index.outs
    → length (row (rows_of opened.layout opened.index image dir) v) ≡ slice_index (degrees_in opened.index dir) v
length-row opened image dir v within =
    ap (λ (l : List Entry). length l) (get_or-map-range_with_len (list_of opened.layout opened.index image dir) 0 (length opened.index.outs) v v [] within (omega arith))
    ∙ length-entries_at opened.index.weighted image (begin_of opened.layout opened.index dir v) (slice_index (degrees_in opened.index dir) v)

pub vertices-on : (opened : Opened) (image : List ℕ) → (graph_over opened image).n ≡ length opened.index.outs
unfolding graph_by
vertices-on opened image = refl

-- the opening states depend on the degrees alone
pub opening-on : (P : Rules) (opened : Opened) (image : List ℕ) → opening_below P opened (length opened.index.outs) ≡ opening_states P (graph_over opened image)
unfolding opening_states graph_by
opening-on P opened image =
    let n = length opened.index.outs in
    let f = λ (w : ℕ). P.init w (slice_index opened.index.outs w) (slice_index opened.index.ins w) in
    let h = λ (w : ℕ). P.init w (length (row (rows_of opened.layout opened.index image Dir.Out) w)) (length (row (rows_of opened.layout opened.index image Dir.In) w)) in
    let lf = length-map-range_with_len f 0 n in
    let lh = length-map-range_with_len h 0 n in
    same_lists (map f (range_with_len 0 n)) (map h (range_with_len 0 n)) (omega arith) (λ k d within.
    get_or-map-range_with_len f 0 n k k d (omega arith) (omega arith)
    ∙ ap (λ outs. P.init k outs (slice_index opened.index.ins k)) (sym (length-row opened image Dir.Out k (omega arith)))
    ∙ ap (P.init k (length (row (rows_of opened.layout opened.index image Dir.Out) k))) (sym (length-row opened image Dir.In k (omega arith)))
    ∙ sym (get_or-map-range_with_len h 0 n k k d (omega arith) (omega arith)))

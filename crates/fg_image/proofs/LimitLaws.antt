-- The graph of an image is within the limits, whatever its bytes.
use Rattle.std.proofs.Common.{◌≡◌, ℕ, zero, suc, ◌+◌, ◌^◌, ◌<◌, ◌≤◌, Bool, true, false, List, length, take, drop, get_or, map, sum, refl, sym, ap, subst, ◌∙◌, arith, inl, inr}
use Rattle.std.specs.Prelude.{All, sum_by}
use Rattle.std.specs.List.{range_with_len}
use Rattle.std.proofs.lemmas.Bool.{cases_lt}
use Rattle.std.proofs.lemmas.List.{get_or-drop, get_or_past, take_all}
use Rattle.std.proofs.lemmas.List.Elements.{All-cons, All-from_get_or, All-get_or, All-map, All-nil}
use Rattle.std.proofs.lemmas.List.FromFn.{length-map-range_with_len, sum_by-map-range_with_len_more}
use Rattle.byteorder.specs.Numbers.{little_from-lt}
use Rattle.fg_base.specs.declared.plain.Dir.{Dir}
use Rattle.fg_base.specs.declared.plain.Dir.TheVariants.{Out, In}
use Rattle.fg_base.specs.declared.plain.Entry.{Entry}
use Rattle.fg_image.specs.Image.{IndexFits}
use Rattle.fg_image.specs.Lists.{begin_of, entries_at, entry_at, graph_by, list_of, rows_of}
use Rattle.fg_image.proofs.EntryLaws.{length-entries_at}
use Rattle.fg_image.proofs.SpanLaws.{each_degree, few_degrees, sum-more}
use Rattle.fg_index.specs.ImageIndex.{ImageIndex, degrees_in, entry_bytes}
use Rattle.fg_model.specs.declared.graph.Graph.{Graph}
use Rattle.fg_model.specs.Graph.{IsEntryOf, IsSide, IsWithinLimits}
use Rattle.fg_stripe.specs.declared.layout.Layout.{Layout}
use Rattle.fg_stripe.specs.Label.{number_at}

-- every item of the list is a byte; past its end there are zeros
pub record IsBytes (bytes : List ℕ) : Type 0 where
  pub each : (i : ℕ) → get_or bytes i 0 < 256

pub bytes_of : (bytes : List ℕ) → All (λ b. b < 256) bytes → IsBytes bytes
bytes_of bytes all = record {
  each = λ i. elim (cases_lt i (length bytes)) [
    | inl within ↦ All-get_or (λ b. b < 256) bytes i 0 within all
    | inr past ↦ let e = get_or_past bytes i 0 past in omega (arith, e)
  ];
}

-- a number of four bytes
number_fits : (bytes : List ℕ) (place : ℕ) → IsBytes bytes → number_at bytes place < 2 ^ 32
number_fits bytes place is =
    let P : ℕ → Type 0 = λ b. b < 256 in
    little_from-lt 0 4 (drop place bytes) (λ k. subst P (sym (get_or-drop place bytes k 0)) (is.each (place + k)))

entry_is : (weighted : Bool) (bytes : List ℕ) (place : ℕ) → IsBytes bytes → IsEntryOf weighted (entry_at weighted bytes place)
entry_is true bytes place is = record {
  target_fits = number_fits bytes place is;
  weight_fits = number_fits bytes (place + 4) is;
  weight_plain = λ same. absurd (cc);
}
entry_is false bytes place is = record {
  target_fits = number_fits bytes place is;
  weight_fits = omega arith;
  weight_plain = λ same. refl;
}

pub entries_are : (weighted : Bool) (bytes : List ℕ) (place count : ℕ) → IsBytes bytes → All (IsEntryOf weighted) (entries_at weighted bytes place count)
entries_are weighted bytes place zero is = All-nil (IsEntryOf weighted)
entries_are weighted bytes place (suc count) is =
    All-cons (IsEntryOf weighted) _ _ (entry_is weighted bytes place is) (entries_are weighted bytes (place + entry_bytes weighted) count is)

module _ (layout : Layout) (index : ImageIndex) (image : List ℕ) (dir : Dir) where
  -- the lists of the vertices below v have as many entries as their degrees tell
  rows_count : (v : ℕ) → v ≤ length (degrees_in index dir)
      → sum_by length (map (list_of layout index image dir) (range_with_len 0 v)) ≡ sum (take v (degrees_in index dir))
  rows_count zero within = refl
  rows_count (suc v) within =
      let degrees = degrees_in index dir in
      let size = λ (entries : List Entry). length entries in
      let next : suc v ≡ v + 1 = omega arith in
      let last : length (list_of layout index image dir v) ≡ get_or degrees v 0 =
      length-entries_at index.weighted image (begin_of layout index dir v) (get_or degrees v 0) in
      let more = sum_by-map-range_with_len_more size (list_of layout index image dir) 0 v v (omega arith) in
      let sums = sum-more degrees v (omega arith) in
      let before = rows_count v (omega arith) in
      ap (λ (n : ℕ). sum_by size (map (list_of layout index image dir) (range_with_len 0 n))) next
      ∙ omega (arith, more, last, sums, before)
      ∙ ap (λ (n : ℕ). sum (take n degrees)) (sym next)

  pub side_is : IndexFits layout index → IsBytes image → IsSide (length index.outs) index.weighted (rows_of layout index image dir)
  side_is fits is =
      let degrees = degrees_in index dir in
      let each = each_degree layout index dir fits in
      let of_row : List Entry → Type 0 = λ entries. All (IsEntryOf index.weighted) entries in
      let listed : (v : ℕ) → of_row (list_of layout index image dir v) =
      λ v. entries_are index.weighted image (begin_of layout index dir v) (get_or degrees v 0) is in
      let count = rows_count (length index.outs) (omega (arith, each)) in
      let all = ap sum (take_all (length index.outs) degrees (omega (arith, each))) in
      record {
        row_count = length-map-range_with_len (list_of layout index image dir) 0 (length index.outs);
        entry_count = omega (arith, count, all, few_degrees layout index dir fits);
        all_entries =
            All-map of_row (list_of layout index image dir) (range_with_len 0 (length index.outs))
            (All-from_get_or (λ v. of_row (list_of layout index image dir v)) (range_with_len 0 (length index.outs)) 0 (λ i h. listed _));
      }

-- the graph of bytes whose sections and index agree is within the limits
pub limits-by : (layout : Layout) (index : ImageIndex) (image : List ℕ) → IndexFits layout index → IsBytes image → IsWithinLimits (graph_by layout index image)
unfolding graph_by
limits-by layout index image fits is = record {
  vertex_count = fits.few_vertices;
  out_side = side_is layout index image Out fits is;
  in_side = side_is layout index image In fits is;
}

pub graph_by-limits : (layout : Layout) (index : ImageIndex) (image : List ℕ) → IndexFits layout index → All (λ b. b < 256) image
    → IsWithinLimits (graph_by layout index image)
graph_by-limits layout index image fits all = limits-by layout index image fits (bytes_of image all)

-- the graph with just these lists
pub graph_by-made : (layout : Layout) (index : ImageIndex) (image : List ℕ) (n : ℕ) (weighted : Bool) (outs ins : List (List Entry))
    → n ≡ length index.outs → weighted ≡ index.weighted → outs ≡ rows_of layout index image Out → ins ≡ rows_of layout index image In
    → (let made : Graph = record { n = n; weighted = weighted; outs = outs; ins = ins } in made ≡ graph_by layout index image)
unfolding graph_by
graph_by-made layout index image n weighted outs ins same_n same_weighted same_outs same_ins = rw (same_n, same_weighted, same_outs, same_ins) refl

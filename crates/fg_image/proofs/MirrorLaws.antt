-- The in-lists of an image against its out-entries turned round, by their keys.
use Rattle.std.proofs.Common.{◌≡◌, ℕ, suc, ◌+◌, ◌-◌, ◌<◌, ◌≤◌, Bool, List, [], ◌++◌, length, take, drop, map, get_or, sum, refl, sym, ap, subst, ◌∙◌, arith, eqb, take_at, drop_at}
use Rattle.std.specs.Prelude.{All, None}
use Rattle.std.specs.List.{flat_map, range_with_len}
use Rattle.std.specs.List.Sorted.{IsPermutation}
use Rattle.std.proofs.lemmas.List.{length-append, length-map}
use Rattle.std.proofs.lemmas.List.Concat.{length-flat_map}
use Rattle.std.proofs.lemmas.List.Elements.{All-filter, All-map, All-weaker}
use Rattle.std.proofs.lemmas.List.FromFn.{get_or-map-range_with_len, length-map-range_with_len, take-map-range_with_len}
use Rattle.std.proofs.lemmas.List.Sorted.{length_permutation}
use Rattle.std.proofs.lemmas.List.Sums.{sum-map}
use Rattle.fg_base.specs.declared.plain.Dir.TheVariants.{In, Out}
use Rattle.fg_base.specs.declared.plain.Entry.{Entry}
use Rattle.fg_image.specs.Checking.{IsFirstUnlike, IsMirrored, IsUnlikeAt}
use Rattle.fg_image.specs.Image.{IndexFits}
use Rattle.fg_image.specs.Lists.{begin_of, graph_by, list_of}
use Rattle.fg_image.specs.Making.{count_of, in_entry, ins_of}
use Rattle.fg_image.specs.Turned.{key_of, keys_to, pair_from, pairs_in, turned_keys}
use Rattle.fg_image.proofs.CellLaws.{flat_map-split, sum_by-same}
use Rattle.fg_image.proofs.EdgeListsLaws.{target_of}
use Rattle.fg_image.proofs.EntryLaws.{length-entries_at}
use Rattle.fg_image.proofs.GroupLaws.{group}
use Rattle.fg_image.proofs.KeyLaws.{entries_same, keys_same}
use Rattle.fg_image.proofs.LimitLaws.{IsBytes, entries_are}
use Rattle.fg_image.proofs.PlaceLaws.{start_of}
use Rattle.fg_image.proofs.SpanLaws.{sum-more}
use Rattle.fg_image.proofs.TurnedLaws.{all_pairs, turned-ins}
use Rattle.fg_index.specs.ImageIndex.{ImageIndex}
use Rattle.fg_model.specs.declared.edges.Pair.{Pair}
use Rattle.fg_model.specs.declared.graph.Graph.{Graph}
use Rattle.fg_model.specs.Graph.{IsEntryOf, row}
use Rattle.fg_stripe.specs.declared.layout.Layout.{Layout}

-- the keys of v among all turned keys
pub record IsCut (weighted : Bool) (n : ℕ) (pairs : List Pair) (v : ℕ) : Type 0 where
  pub within : start_of n pairs v + count_of In pairs v ≤ length (turned_keys weighted n pairs)
  pub cut : take (count_of In pairs v) (drop (start_of n pairs v) (turned_keys weighted n pairs)) ≡ keys_to weighted pairs v

length-keys : (weighted : Bool) (pairs : List Pair) (v : ℕ) → length (keys_to weighted pairs v) ≡ count_of In pairs v
length-keys weighted pairs v = length-map (ins_of pairs v) (key_of weighted) ∙ length-map (group target_of v pairs) in_entry

pub cut-at : (weighted : Bool) (n : ℕ) (pairs : List Pair) (v : ℕ) → v < n → IsCut weighted n pairs v
cut-at weighted n pairs v below =
    let f = keys_to weighted pairs in
    let count = count_of In pairs in
    let back = n - suc v in
    let whole : v + suc back ≡ n = omega arith in
    let front = flat_map f (range_with_len 0 v) in
    let rest = flat_map f (range_with_len (v + 1) back) in
    let split : turned_keys weighted n pairs ≡ front ++ (f v ++ rest) = ap (λ (k : ℕ). flat_map f (range_with_len 0 k)) (sym whole) ∙ flat_map-split f v back in
    let lists : length front ≡ sum (map count (range_with_len 0 v)) =
    length-flat_map f (range_with_len 0 v) ∙ sum_by-same (λ u. length (f u)) count (length-keys weighted pairs) (range_with_len 0 v) ∙ sym (sum-map count (range_with_len 0 v)) in
    let some = ap sum (take-map-range_with_len count 0 n v (omega arith)) in
    let start : length front ≡ start_of n pairs v = lists ∙ sym some in
    let long = ap length split ∙ length-append front (f v ++ rest) in
    let own = length-append (f v) rest in
    record {
      within = omega (arith, long, own, start, length-keys weighted pairs v);
      cut =
          ap (λ (l : List ℕ). take (count v) (drop (start_of n pairs v) l)) split
          ∙ ap (take (count v)) (drop_at front (f v ++ rest) (start_of n pairs v) start)
          ∙ take_at (f v) rest (count v) (length-keys weighted pairs v);
    }

pub start-next : (n : ℕ) (pairs : List Pair) (v : ℕ) → v < n → start_of n pairs (v + 1) ≡ start_of n pairs v + count_of In pairs v
start-next n pairs v below =
    let list = map (count_of In pairs) (range_with_len 0 n) in
    let more = sum-more list v (omega (arith, length-map-range_with_len (count_of In pairs) 0 n)) in
    let here : get_or list v 0 ≡ count_of In pairs v = get_or-map-range_with_len (count_of In pairs) 0 n v v 0 below (omega arith) in
    omega (arith, more, here)

module _ (layout : Layout) (index : ImageIndex) (image : List ℕ) where
  abbrev graph : Graph
  graph = graph_by layout index image

  abbrev pairs : List Pair
  pairs = pairs_in layout index image

  abbrev ins : ℕ → List Entry
  ins v = list_of layout index image In v

  pub graph-n : (graph_by layout index image).n ≡ length index.outs
  unfolding graph_by
  graph-n = refl

  ins-row : (v : ℕ) → v < length index.outs → row (graph_by layout index image).ins v ≡ ins v
  unfolding graph_by
  ins-row v below = get_or-map-range_with_len (list_of layout index image In) 0 (length index.outs) v v [] below (omega arith)

  mirrored-by : (v : ℕ) → v < length index.outs → IsPermutation (ins v) (ins_of pairs v) → IsMirrored graph v
  mirrored-by v below same =
      let P : List Entry → Type 0 = λ l. IsPermutation l (ins_of pairs v) in
      let Q : List Entry → Type 0 = λ l. IsPermutation (row graph.ins v) l in
      subst Q (sym (turned-ins layout index image v)) (subst P (sym (ins-row v below)) same)

  mirrored-ins : (v : ℕ) → v < length index.outs → IsMirrored graph v → IsPermutation (ins v) (ins_of pairs v)
  mirrored-ins v below same =
      let P : List Entry → Type 0 = λ l. IsPermutation l (ins_of pairs v) in
      let Q : List Entry → Type 0 = λ l. IsPermutation (row graph.ins v) l in
      subst P (ins-row v below) (subst Q (turned-ins layout index image v) same)

  length-ins : (v : ℕ) → length (ins v) ≡ get_or index.ins v 0
  length-ins v = length-entries_at index.weighted image (begin_of layout index In v) (get_or index.ins v 0)

  -- lists of different lengths
  pub unlike-count : (v : ℕ) → v < length index.outs → (get_or index.ins v 0 ≡ count_of In pairs v → ⊥) → IsMirrored graph v → ⊥
  unlike-count v below other same =
      let each = length_permutation (ins v) (ins_of pairs v) (mirrored-ins v below same) in
      other (omega (arith, each, length-ins v, length-map (group target_of v pairs) in_entry))

  module _ (fits : IndexFits layout index) (bytes : IsBytes image) where
    ins_are : (v : ℕ) → All (IsEntryOf index.weighted) (ins v)
    ins_are v = entries_are index.weighted image (begin_of layout index In v) (get_or index.ins v 0) bytes

    turned_are : (v : ℕ) → All (IsEntryOf index.weighted) (ins_of pairs v)
    turned_are v =
        let w = index.weighted in
        let P : Pair → Type 0 = λ pair. IsEntryOf w (in_entry pair) in
        let each = all_pairs layout index image P 0 (length index.outs) (λ u below.
        All-map P (pair_from u) (list_of layout index image Out u)
        (All-weaker (IsEntryOf w) (λ entry. P (pair_from u entry))
        (λ entry is. record { target_fits = omega (arith, below, fits.few_vertices); weight_fits = is.weight_fits; weight_plain = is.weight_plain })
        (list_of layout index image Out u) (entries_are w image (begin_of layout index Out u) (get_or index.outs u 0) bytes))) in
        All-map (IsEntryOf w) in_entry (group target_of v pairs) (All-filter (λ pair. eqb pair.target v) P pairs each)

    -- by the keys of the in-list and of the turned entries
    pub mirrored-keys : (v : ℕ) (one other : List ℕ) → v < length index.outs → one ≡ map (key_of index.weighted) (ins v) → other ≡ keys_to index.weighted pairs v
        → IsPermutation one other → IsMirrored graph v
    mirrored-keys v one other below read cut same =
        let w = index.weighted in
        let P : List ℕ → Type 0 = λ l. IsPermutation l other in
        let Q : List ℕ → Type 0 = λ l. IsPermutation (map (key_of w) (ins v)) l in
        mirrored-by v below (entries_same w (ins v) (ins_of pairs v) (ins_are v) (turned_are v) (subst Q cut (subst P read same)))

    pub keys-mirrored : (v : ℕ) (one other : List ℕ) → v < length index.outs → one ≡ map (key_of index.weighted) (ins v) → other ≡ keys_to index.weighted pairs v
        → IsMirrored graph v → IsPermutation one other
    keys-mirrored v one other below read cut same =
        let w = index.weighted in
        let P : List ℕ → Type 0 = λ l. IsPermutation l other in
        let Q : List ℕ → Type 0 = λ l. IsPermutation (map (key_of w) (ins v)) l in
        subst P (sym read) (subst Q (sym cut) (keys_same w (ins v) (ins_of pairs v) (mirrored-ins v below same)))

  pub first-unlike : (v : ℕ) → v < length index.outs → ((u : ℕ) → u < v → IsMirrored graph u) → (IsMirrored graph v → ⊥) → IsFirstUnlike graph v
  first-unlike v below mirrored unlike = record { below = omega (arith, below, graph-n); mirrored = mirrored; unlike = unlike }

  pub none-unlike : (v : ℕ) → length index.outs ≤ v → ((u : ℕ) → u < v → IsMirrored graph u) → IsUnlikeAt graph None
  none-unlike v past mirrored = λ u below. mirrored u (omega (arith, below, past, graph-n))

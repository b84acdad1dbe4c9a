-- The first entry of an image that leads to no vertex, list by list; where there is none the graph is sound.
use Rattle.std.proofs.Common.{◌≡◌, ℕ, suc, ◌+◌, ◌-◌, ◌*◌, ◌<◌, ◌≤◌, Bool, List, [], ◌∷◌, ◌++◌, length, refl, sym, ap, ◌∙◌, arith, inl, inr}
use Rattle.std.specs.Prelude.{All, Option, Some, None, find}
use Rattle.std.specs.List.{flat_map, range_with_len}
use Rattle.std.proofs.lemmas.Bool.{cases_lt}
use Rattle.std.proofs.lemmas.List.Elements.{All-cons, All-from_get_or, All-nil}
use Rattle.std.proofs.lemmas.List.FromFn.{get_or-map-range_with_len}
use Rattle.fg_base.specs.declared.plain.BadEdge.{BadEdge}
use Rattle.fg_base.specs.declared.plain.Dir.{Dir}
use Rattle.fg_base.specs.declared.plain.Dir.TheVariants.{Out, In}
use Rattle.fg_base.specs.declared.plain.Entry.{Entry}
use Rattle.fg_base.specs.declared.plain.Need.{Need}
use Rattle.fg_image.specs.Checking.{bad_edge_in}
use Rattle.fg_image.specs.Lists.{entries_at, entry_at, graph_by, list_of}
use Rattle.fg_image.proofs.CellLaws.{flat_map-split}
use Rattle.fg_image.proofs.EdgeListsLaws.{flat_map-same}
use Rattle.fg_image.proofs.EntryLaws.{entries_at-append, entries_at-more, length-entries_at}
use Rattle.fg_image.proofs.GroupLaws.{flat_map-more}
use Rattle.fg_index.specs.ImageIndex.{ImageIndex, entry_bytes}
use Rattle.fg_model.specs.declared.graph.Graph.{Graph}
use Rattle.fg_model.specs.Graph.{IsSound, IsWithinLimits, row}
use Rattle.fg_model.specs.Iteration.{is_bad}
use Rattle.fg_model.specs.VertexRun.{edges_from, edges_of}
use Rattle.fg_model.proofs.IterationLemmas.{find-bad, find-front, find-good, find-skip, is_bad-past, is_good}
use Rattle.fg_stripe.specs.declared.layout.Layout.{Layout}

edges_from-append : (v : ℕ) (dir : Dir) (place : ℕ) (xs ys : List Entry)
    → edges_from v dir place (xs ++ ys) ≡ edges_from v dir place xs ++ edges_from v dir (place + length xs) ys
edges_from-append v dir place [] ys = ap (λ (p : ℕ). edges_from v dir p ys) (let here : place ≡ place + 0 = omega arith in here)
edges_from-append v dir place (x ∷ xs) ys =
    let first : BadEdge = record { v = v; dir = dir; place = place; found = x.target } in
    let there : (place + 1) + length xs ≡ place + suc (length xs) = omega arith in
    ap (λ (l : List BadEdge). first ∷ l)
    (edges_from-append v dir (place + 1) xs ys ∙ ap (λ (p : ℕ). edges_from v dir (place + 1) xs ++ edges_from v dir p ys) there)

-- an entry as it was read
pub entry-read : (weighted other : Bool) (bytes : List ℕ) (begin i size : ℕ) (entry : Entry) → entry ≡ entry_at other bytes (begin + i * size) → other ≡ weighted
    → size ≡ entry_bytes weighted → entry ≡ entry_at weighted bytes (begin + i * entry_bytes weighted)
entry-read weighted other bytes begin i size entry is same each =
    is ∙ ap (λ (w : Bool). entry_at w bytes (begin + i * size)) same ∙ ap (λ (k : ℕ). entry_at weighted bytes (begin + i * k)) each

abbrev pub edge_of : ℕ → Dir → ℕ → Entry → BadEdge
edge_of v dir place entry = record { v = v; dir = dir; place = place; found = entry.target }

-- a list of which the first entries were looked at
module _ (weighted : Bool) (bytes : List ℕ) (begin n v : ℕ) (dir : Dir) where
  -- the entry at i
  abbrev pub edge_at : ℕ → BadEdge
  edge_at i = record { v = v; dir = dir; place = i; found = (entry_at weighted bytes (begin + i * entry_bytes weighted)).target }

  abbrev pub edges_to : ℕ → List BadEdge
  edges_to i = edges_from v dir 0 (entries_at weighted bytes begin i)

  edges-more : (i : ℕ) → edges_to (i + 1) ≡ edges_to i ++ edge_at i ∷ []
  edges-more i =
      let last : Entry = entry_at weighted bytes (begin + i * entry_bytes weighted) in
      let here : 0 + length (entries_at weighted bytes begin i) ≡ i = omega (arith, length-entries_at weighted bytes begin i) in
      ap (edges_from v dir 0) (entries_at-more weighted bytes begin i)
      ∙ edges_from-append v dir 0 (entries_at weighted bytes begin i) (last ∷ [])
      ∙ ap (λ (p : ℕ). edges_to i ++ edges_from v dir p (last ∷ [])) here

  pub none-more : (i : ℕ) → find (is_bad n) (edges_to i) ≡ None → (edge_at i).found < n → find (is_bad n) (edges_to (i + 1)) ≡ None
  none-more i none leads =
      ap (find (is_bad n)) (edges-more i)
      ∙ find-skip (is_bad n) (edges_to i) (edge_at i ∷ []) none
      ∙ find-good (is_bad n) (edge_at i) [] (is_good n (edge_at i) leads)

  pub first-bad : (i count : ℕ) → i < count → find (is_bad n) (edges_to i) ≡ None → n ≤ (edge_at i).found → find (is_bad n) (edges_to count) ≡ Some (edge_at i)
  first-bad i count below none past =
      let back = count - (i + 1) in
      let all : (i + 1) + back ≡ count = omega arith in
      let first = entries_at weighted bytes begin (i + 1) in
      let rest = entries_at weighted bytes (begin + (i + 1) * entry_bytes weighted) back in
      let found : find (is_bad n) (edges_to (i + 1)) ≡ Some (edge_at i) =
      ap (find (is_bad n)) (edges-more i)
      ∙ find-skip (is_bad n) (edges_to i) (edge_at i ∷ []) none
      ∙ find-bad (is_bad n) (edge_at i) [] (is_bad-past n (edge_at i) past) in
      ap (λ (k : ℕ). find (is_bad n) (edges_to k)) (sym all)
      ∙ ap (λ (l : List Entry). find (is_bad n) (edges_from v dir 0 l)) (entries_at-append weighted bytes begin (i + 1) back)
      ∙ ap (find (is_bad n)) (edges_from-append v dir 0 first rest)
      ∙ find-front (is_bad n) (edges_to (i + 1)) (edges_from v dir (0 + length first) rest) (edge_at i) found

-- the entries of both lists of each vertex
module _ (layout : Layout) (index : ImageIndex) (image : List ℕ) where
  abbrev pub listed : Dir → ℕ → List BadEdge
  listed dir v = edges_from v dir 0 (list_of layout index image dir v)

  abbrev pub edges_by : ℕ → List BadEdge
  edges_by v = listed Out v ++ listed In v

  abbrev all_bad : BadEdge → Bool
  all_bad = is_bad (length index.outs)

  pub bad_edge-by : bad_edge_in (graph_by layout index image) ≡ find (is_bad (length index.outs)) (flat_map edges_by (range_with_len 0 (length index.outs)))
  unfolding graph_by
  bad_edge-by =
      let n = length index.outs in
      let graph = graph_by layout index image in
      ap (find (is_bad n))
      (flat_map-same (edges_of Need.Both graph) edges_by 0 n
      (λ v above below.
      let outs = get_or-map-range_with_len (list_of layout index image Out) 0 n v v [] (omega arith) (omega arith) in
      let ins = get_or-map-range_with_len (list_of layout index image In) 0 n v v [] (omega arith) (omega arith) in
      ap (λ (l : List Entry). edges_from v Out 0 l ++ edges_from v In 0 (row graph.ins v)) outs
      ∙ ap (λ (l : List Entry). listed Out v ++ edges_from v In 0 l) ins))

  abbrev pub found_below : ℕ → Option BadEdge
  found_below v = find (is_bad (length index.outs)) (flat_map edges_by (range_with_len 0 v))

  pub vertex-more : (v : ℕ) → found_below v ≡ None → find (is_bad (length index.outs)) (listed Out v) ≡ None → find (is_bad (length index.outs)) (listed In v) ≡ None
      → found_below (v + 1) ≡ None
  vertex-more v none outs ins =
      let bad = is_bad (length index.outs) in
      ap (find bad) (flat_map-more edges_by v)
      ∙ find-skip bad (flat_map edges_by (range_with_len 0 v)) (edges_by v) none
      ∙ find-skip bad (listed Out v) (listed In v) outs
      ∙ ins

  vertex-first : (v : ℕ) (edge : BadEdge) → v < length index.outs → found_below v ≡ None → find (is_bad (length index.outs)) (edges_by v) ≡ Some edge
      → bad_edge_in (graph_by layout index image) ≡ Some edge
  vertex-first v edge below none some =
      let n = length index.outs in
      let bad = is_bad n in
      let back = n - suc v in
      let all : v + suc back ≡ n = omega arith in
      let rest = flat_map edges_by (range_with_len (v + 1) back) in
      bad_edge-by
      ∙ ap (λ (k : ℕ). find bad (flat_map edges_by (range_with_len 0 k))) (sym all)
      ∙ ap (find bad) (flat_map-split edges_by v back)
      ∙ find-skip bad (flat_map edges_by (range_with_len 0 v)) (edges_by v ++ rest) none
      ∙ find-front bad (edges_by v) rest edge some

  pub first-out : (v : ℕ) (edge : BadEdge) → v < length index.outs → found_below v ≡ None → find (is_bad (length index.outs)) (listed Out v) ≡ Some edge
      → bad_edge_in (graph_by layout index image) ≡ Some edge
  first-out v edge below none some =
      vertex-first v edge below none (find-front (is_bad (length index.outs)) (listed Out v) (listed In v) edge some)

  pub first-in : (v : ℕ) (edge : BadEdge) → v < length index.outs → found_below v ≡ None → find (is_bad (length index.outs)) (listed Out v) ≡ None
      → find (is_bad (length index.outs)) (listed In v) ≡ Some edge → bad_edge_in (graph_by layout index image) ≡ Some edge
  first-in v edge below none outs some =
      vertex-first v edge below none (find-skip (is_bad (length index.outs)) (listed Out v) (listed In v) outs ∙ some)

-- what nothing is found in has nothing in its parts
none-parts : {X : Type 0} (test : X → Bool) (xs ys : List X) → find test (xs ++ ys) ≡ None → (find test xs ≡ None) × (find test ys ≡ None)
none-parts {X} test xs ys none = parts (find test xs) refl
  where
    parts : (found : Option X) → find test xs ≡ found → (find test xs ≡ None) × (find test ys ≡ None)
    parts None is = (is, sym (find-skip test xs ys is) ∙ none)
    parts (Some x) is = absurd (let some : find test (xs ++ ys) ≡ Some x = find-front test xs ys x is in cc)

none-at : {X : Type 0} (test : X → Bool) (f : ℕ → List X) (n v : ℕ) → find test (flat_map f (range_with_len 0 n)) ≡ None → v < n → find test (f v) ≡ None
none-at test f n v none below =
    let back = n - suc v in
    let all : v + suc back ≡ n = omega arith in
    let split : find test (flat_map f (range_with_len 0 v) ++ (f v ++ flat_map f (range_with_len (v + 1) back))) ≡ None =
    ap (find test) (sym (flat_map-split f v back)) ∙ ap (λ (k : ℕ). find test (flat_map f (range_with_len 0 k))) all ∙ none in
    let behind = none-parts test (flat_map f (range_with_len 0 v)) (f v ++ flat_map f (range_with_len (v + 1) back)) split in
    let here = none-parts test (f v) (flat_map f (range_with_len (v + 1) back)) behind.1 in
    here.0

leads-all : (n v : ℕ) (dir : Dir) (place : ℕ) (entries : List Entry) → find (is_bad n) (edges_from v dir place entries) ≡ None → All (λ entry. entry.target < n) entries
leads-all n v dir place [] none = All-nil (λ entry. entry.target < n)
leads-all n v dir place (entry ∷ entries) none =
    let edge : BadEdge = record { v = v; dir = dir; place = place; found = entry.target } in
    let rest = edges_from v dir (place + 1) entries in
    elim (cases_lt entry.target n) [
      | inl leads ↦
          All-cons (λ e. e.target < n) entry entries leads
          (leads-all n v dir (place + 1) entries (sym (find-good (is_bad n) edge rest (is_good n edge leads)) ∙ none))
      | inr past ↦ absurd (let some : find (is_bad n) (edge ∷ rest) ≡ Some edge = find-bad (is_bad n) edge rest (is_bad-past n edge past) in cc)
    ]

-- no bad edge makes the graph sound
pub sound-by : (graph : Graph) → IsWithinLimits graph → bad_edge_in graph ≡ None → IsSound graph
sound-by graph limits none =
    let n = graph.n in
    let of_row : List Entry → Type 0 = λ entries. All (λ entry. entry.target < n) entries in
    let both = λ (v : ℕ) (below : v < n). none-parts (is_bad n) (edges_from v Out 0 (row graph.outs v)) (edges_from v In 0 (row graph.ins v))
    (none-at (is_bad n) (edges_of Need.Both graph) n v none below) in
    record {
      out_targets = All-from_get_or of_row graph.outs [] (λ v h. let parts = both v (omega (arith, limits.out_side.row_count)) in leads-all n v Out 0 (row graph.outs v) parts.0);
      in_targets = All-from_get_or of_row graph.ins [] (λ v h. let parts = both v (omega (arith, limits.in_side.row_count)) in leads-all n v In 0 (row graph.ins v) parts.1);
    }

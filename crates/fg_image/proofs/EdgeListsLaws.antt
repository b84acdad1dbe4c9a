-- The graph of edges is within the limits and a mirror, and its lists in their order are the edges.
use Rattle.std.proofs.Common.{◌≡◌, ℕ, zero, suc, ◌+◌, ◌<◌, ◌≤◌, Bool, List, [], ◌∷◌, ◌++◌, length, map, get_or, refl, sym, ap, subst, ◌∙◌, arith, eqb, inl, inr}
use Rattle.std.specs.Prelude.{All, filter, sum_by}
use Rattle.std.specs.List.{flat_map, range_with_len}
use Rattle.std.specs.List.Sorted.{IsPermutation}
use Rattle.std.proofs.lemmas.Bool.{cases_Bool, eqb-true}
use Rattle.std.proofs.lemmas.Grind.{flat_map-append}
use Rattle.std.proofs.lemmas.List.{length-map, map-append}
use Rattle.std.proofs.lemmas.List.Elements.{All-cons, All-filter, All-map, All-nil, All-weaker, filter-append}
use Rattle.std.proofs.lemmas.List.Folds.{flat_map-map}
use Rattle.std.proofs.lemmas.List.FromFn.{get_or-map-range_with_len, length-map-range_with_len}
use Rattle.std.proofs.lemmas.List.Sorted.{IsPermutation-refl}
use Rattle.std.proofs.lemmas.List.Sums.{sum_by-cons}
use Rattle.fg_base.specs.declared.plain.Entry.{Entry}
use Rattle.fg_image.proofs.GroupLaws.{Rises, counts, group, groups}
use Rattle.fg_model.specs.Edges.{AreEdges, ComesBefore, EdgeList, IsPairOf}
use Rattle.fg_model.specs.Graph.{IsEntryOf, IsWithinLimits, row}
use Rattle.fg_model.specs.Mirror.{IsMirror, turned_to}
use Rattle.fg_model.specs.declared.edges.Pair.{Pair}
use Rattle.fg_model.specs.declared.graph.Graph.{Graph}
use Rattle.fg_image.specs.Made.{graph_of_edges, spelled_entry, spelled_lists}
use Rattle.fg_image.specs.Making.{in_entry, ins_of, out_entry, outs_of}

-- the graph of edges, as `graph_of_edges` has it
abbrev pub graph_from : EdgeList → Graph
graph_from edges = record {
  n = edges.n;
  weighted = edges.weighted;
  outs = map (outs_of edges.pairs) (range_with_len 0 edges.n);
  ins = map (ins_of edges.pairs) (range_with_len 0 edges.n);
}

pub graph_of_edges-is : (edges : EdgeList) → graph_of_edges edges ≡ graph_from edges
unfolding graph_of_edges
graph_of_edges-is edges = refl

-- by source, and by target
abbrev pub source_of : Pair → ℕ
source_of pair = pair.source

abbrev pub target_of : Pair → ℕ
target_of pair = pair.target

-- what holds of every element holds of each
every : {X : Type 0} (P : X → Type 0) → ((x : X) → P x) → (xs : List X) → All P xs
every P holds [] = All-nil P
every P holds (x ∷ xs) = All-cons P x xs (holds x) (every P holds xs)

-- the same function at each number of a range
pub flat_map-same : {A : Type 0} (f g : ℕ → List A) (from count : ℕ) → ((u : ℕ) → from ≤ u → u < from + count → f u ≡ g u)
    → flat_map f (range_with_len from count) ≡ flat_map g (range_with_len from count)
flat_map-same f g from zero same = refl
flat_map-same {A} f g from (suc count) same =
    ap (λ (l : List A). l ++ flat_map f (range_with_len (from + 1) count)) (same from (omega arith) (omega arith))
    ∙ ap (λ (l : List A). g from ++ l) (flat_map-same f g (from + 1) count (λ u above below. same u (omega arith) (omega arith)))

pub flat_map-mapped : {X A B : Type 0} (h : A → B) (f : X → List A) (xs : List X) → flat_map (λ x. map h (f x)) xs ≡ map h (flat_map f xs)
flat_map-mapped h f [] = refl
flat_map-mapped {B = B} h f (x ∷ xs) = ap (λ (l : List B). map h (f x) ++ l) (flat_map-mapped h f xs) ∙ sym (map-append h (f x) (flat_map f xs))

pub flat_map-filtered : {X A : Type 0} (p : A → Bool) (f : X → List A) (xs : List X) → flat_map (λ x. filter p (f x)) xs ≡ filter p (flat_map f xs)
flat_map-filtered p f [] = refl
flat_map-filtered {A = A} p f (x ∷ xs) = ap (λ (l : List A). filter p (f x) ++ l) (flat_map-filtered p f xs) ∙ sym (filter-append p (f x) (flat_map f xs))

-- lists as a section has them, and all their entries in a row
pub section-flat : {X : Type 0} (bytes : Entry → List ℕ) (f : X → List Entry) (xs : List X) → flat_map (flat_map bytes) (map f xs) ≡ flat_map bytes (flat_map f xs)
section-flat bytes f [] = refl
section-flat bytes f (x ∷ xs) = ap (λ (l : List ℕ). flat_map bytes (f x) ++ l) (section-flat bytes f xs) ∙ sym (flat_map-append bytes (f x) (flat_map f xs))

-- lists as long as groups have together as many entries
rows-count : (f : ℕ → List Entry) (g : ℕ → List Pair) → ((v : ℕ) → length (f v) ≡ length (g v)) → (from count : ℕ)
    → sum_by length (map f (range_with_len from count)) ≡ sum_by (λ v. length (g v)) (range_with_len from count)
rows-count f g same from zero = refl
rows-count f g same from (suc count) =
    let size = λ (entries : List Entry). length entries in
    let rest = rows-count f g same (from + 1) count in
    let first = same from in
    sum_by-cons size (f from) (map f (range_with_len (from + 1) count))
    ∙ omega (arith, rest, first, sum_by-cons (λ (v : ℕ). length (g v)) from (range_with_len (from + 1) count))

-- the entries of u that lead to v, turned round, are the edges from u to v
turned-one : (pairs : List Pair) (u v : ℕ)
    → map (λ entry. record { target = u; weight = entry.weight }) (filter (λ entry. eqb entry.target v) (map out_entry (group source_of u pairs)))
    ≡ map in_entry (filter (λ pair. eqb pair.target v) (group source_of u pairs))
turned-one [] u v = refl
turned-one (pair ∷ pairs) u v =
    let rest = turned-one pairs u v in
    elim (cases_Bool (eqb pair.source u)) [
      | inl own ↦
          let from : u ≡ pair.source = sym (eqb-true pair.source u own) in
          elim (cases_Bool (eqb pair.target v)) [
            | inl leads ↦
                let first : made u pair.weight ≡ in_entry pair = ap (λ (t : ℕ). made t pair.weight) from in
                rw (own, leads) (led _ _ _ _ first rest)
            | inr other ↦ rw (own, other) rest
          ]
      | inr other ↦ rw other rest
    ]
  where
    made : ℕ → ℕ → Entry
    made target weight = record { target = target; weight = weight }

    led : (e f : Entry) (l m : List Entry) → e ≡ f → l ≡ m → (e ∷ l) ≡ (f ∷ m)
    led e f l m p q = rw (p, q) refl

module _ (edges : EdgeList) (are : AreEdges edges) where
  rises : Rises source_of edges.pairs
  rises i j d h k = ordered (get_or edges.pairs i d) (get_or edges.pairs j d) (are.ascending i j d h k)
    where
      ordered : (one other : Pair) → ComesBefore one other → one.source ≤ other.source
      ordered one other before = elim before [ inl less ↦ omega arith | inr same ↦ (let e = same.0 in omega arith) ]

  sources : All (λ pair. source_of pair < edges.n) edges.pairs
  sources = All-weaker (IsPairOf edges.n edges.weighted) (λ pair. source_of pair < edges.n) (λ pair is. is.source_below) edges.pairs are.each

  targets : All (λ pair. target_of pair < edges.n) edges.pairs
  targets = All-weaker (IsPairOf edges.n edges.weighted) (λ pair. target_of pair < edges.n) (λ pair is. is.target_below) edges.pairs are.each

  pub count-outs : sum_by length (graph_from edges).outs ≡ length edges.pairs
  count-outs =
      rows-count (outs_of edges.pairs) (λ v. group source_of v edges.pairs) (λ v. length-map (group source_of v edges.pairs) out_entry) 0 edges.n
      ∙ counts source_of edges.n edges.pairs sources

  pub count-ins : sum_by length (graph_from edges).ins ≡ length edges.pairs
  count-ins =
      rows-count (ins_of edges.pairs) (λ v. group target_of v edges.pairs) (λ v. length-map (group target_of v edges.pairs) in_entry) 0 edges.n
      ∙ counts target_of edges.n edges.pairs targets

  -- what holds of each edge's entry holds of all entries
  all_outs : (P : Entry → Type 0) → All (λ pair. P (out_entry pair)) edges.pairs → All (λ entries. All P entries) (graph_from edges).outs
  all_outs P all =
      All-map (λ entries. All P entries) (outs_of edges.pairs) (range_with_len 0 edges.n)
      (every (λ v. All P (outs_of edges.pairs v))
      (λ v. All-map P out_entry (group source_of v edges.pairs) (All-filter (λ pair. eqb pair.source v) (λ pair. P (out_entry pair)) edges.pairs all))
      (range_with_len 0 edges.n))

  all_ins : (P : Entry → Type 0) → All (λ pair. P (in_entry pair)) edges.pairs → All (λ entries. All P entries) (graph_from edges).ins
  all_ins P all =
      All-map (λ entries. All P entries) (ins_of edges.pairs) (range_with_len 0 edges.n)
      (every (λ v. All P (ins_of edges.pairs v))
      (λ v. All-map P in_entry (group target_of v edges.pairs) (All-filter (λ pair. eqb pair.target v) (λ pair. P (in_entry pair)) edges.pairs all))
      (range_with_len 0 edges.n))

  pub edges-limits : IsWithinLimits (graph_from edges)
  edges-limits = record {
    vertex_count = are.vertex_count;
    out_side = record {
      row_count = length-map-range_with_len (outs_of edges.pairs) 0 edges.n;
      entry_count = omega (arith, count-outs, are.pair_count);
      all_entries = all_outs (IsEntryOf edges.weighted) (All-weaker (IsPairOf edges.n edges.weighted) (λ pair. IsEntryOf edges.weighted (out_entry pair))
          (λ pair is. record { target_fits = omega (arith, is.target_below, are.vertex_count); weight_fits = is.weight_fits; weight_plain = is.weight_plain }) edges.pairs are.each);
    };
    in_side = record {
      row_count = length-map-range_with_len (ins_of edges.pairs) 0 edges.n;
      entry_count = omega (arith, count-ins, are.pair_count);
      all_entries = all_ins (IsEntryOf edges.weighted) (All-weaker (IsPairOf edges.n edges.weighted) (λ pair. IsEntryOf edges.weighted (in_entry pair))
          (λ pair is. record { target_fits = omega (arith, is.source_below, are.vertex_count); weight_fits = is.weight_fits; weight_plain = is.weight_plain }) edges.pairs are.each);
    };
  }

  turned : (v : ℕ) → turned_to (graph_from edges) v ≡ ins_of edges.pairs v
  turned v =
      let pairs = edges.pairs in
      let rows = map (outs_of pairs) (range_with_len 0 edges.n) in
      let turn : ℕ → List Entry → List Entry = λ u entries. map (λ entry. record { target = u; weight = entry.weight }) (filter (λ entry. eqb entry.target v) entries) in
      let to : ℕ → List Pair = λ u. filter (λ pair. eqb pair.target v) (group source_of u pairs) in
      flat_map-same (λ u. turn u (row rows u)) (λ u. map in_entry (to u)) 0 edges.n
      (λ u above below. ap (turn u) (get_or-map-range_with_len (outs_of pairs) 0 edges.n u u [] (omega arith) (omega arith)) ∙ turned-one pairs u v)
      ∙ flat_map-mapped in_entry to (range_with_len 0 edges.n)
      ∙ ap (map in_entry) (flat_map-filtered (λ pair. eqb pair.target v) (λ u. group source_of u pairs) (range_with_len 0 edges.n))
      ∙ ap (λ (l : List Pair). map in_entry (filter (λ pair. eqb pair.target v) l)) (groups source_of edges.n pairs rises sources)

  pub edges-mirror : IsMirror (graph_from edges)
  edges-mirror = record {
    sound = record {
      out_targets = all_outs (λ entry. entry.target < edges.n) targets;
      in_targets = all_ins (λ entry. entry.target < edges.n) sources;
    };
    in_lists = λ v below.
        let own : row (graph_from edges).ins v ≡ ins_of edges.pairs v = get_or-map-range_with_len (ins_of edges.pairs) 0 edges.n v v [] below (omega arith) in
        let P : List Entry → Type 0 = λ entries. IsPermutation (row (graph_from edges).ins v) entries in
        subst P (own ∙ sym (turned v)) (IsPermutation-refl (row (graph_from edges).ins v));
  }

  -- the section of the out-lists has the edges in their order
  pub section-outs : spelled_lists edges.weighted (graph_from edges).outs ≡ flat_map (λ pair. spelled_entry edges.weighted (out_entry pair)) edges.pairs
  section-outs =
      let bytes = spelled_entry edges.weighted in
      section-flat bytes (outs_of edges.pairs) (range_with_len 0 edges.n)
      ∙ ap (flat_map bytes) (flat_map-mapped out_entry (λ v. group source_of v edges.pairs) (range_with_len 0 edges.n) ∙ ap (map out_entry) (groups source_of edges.n edges.pairs rises sources))
      ∙ flat_map-map bytes out_entry edges.pairs

-- What is gathered stays within the limits.
use Rattle.std.proofs.Common.{◌≡◌, ℕ, ◌+◌, ◌<◌, ◌≤◌, ◌^◌, ◌++◌, ◌∷◌, ◌||◌, Bool, true, false, cond, List, [], All, Contains, length, take, refl, subst, sym, arith}
use Rattle.std.specs.Prelude.{is_some, Option, None, Some}
use Rattle.std.proofs.lemmas.Bool.{or_parts}
use Rattle.std.proofs.lemmas.List.{length-append, length-take}
use Rattle.std.proofs.lemmas.List.Elements.{All-append, All-cons, All-contains, All-nil, All-take, All-weaker}
use Rattle.fg_base.specs.declared.limits.TheConstants.{MAX_ENTRIES, MAX_VERTICES}
use Rattle.fg_model.specs.declared.edges.Pair.{Pair}
use Rattle.fg_model.specs.Edges.{AreEdges, IsPairOf}
use Rattle.fg_text.specs.declared.verdict.Edge.{Edge}
use Rattle.fg_text.specs.Merged.{IsMerged}
use Rattle.fg_text.specs.Gathered.{AreGathered, is_double, pair_there, pair_back, pairs_of, vertices_with, weight_of}

-- an edge without a weight weighs 1
plain_weight : (weight : Option ℕ) (source target : ℕ) → is_some weight ≡ false → weight_of (record { source = source; target = target; weight = weight }) ≡ 1
plain_weight None source target none = refl
plain_weight (Some weight) source target none = absurd (cc none)

-- a pair stays one as the vertices grow, and once there is a weight
pair_stays : (n more : ℕ) (weighted also : Bool) (pair : Pair) → n ≤ more → (also ≡ false → weighted ≡ false) → IsPairOf n weighted pair → IsPairOf more also pair
pair_stays n more weighted also pair le plain is = record {
  source_below = omega (arith, is.source_below);
  target_below = omega (arith, is.target_below);
  weight_fits = is.weight_fits;
  weight_plain = λ none. is.weight_plain (plain none);
}

-- the pairs of an edge are pairs of the vertices up to it
edge_pairs : (undirected : Bool) (edge : Edge) (n : ℕ) (weighted : Bool) → weight_of edge < 2 ^ 32 → All (IsPairOf (vertices_with n edge) (weighted || is_some edge.weight)) (pairs_of undirected edge)
edge_pairs undirected edge n weighted fits =
    let P : Pair → Type 0 = IsPairOf (vertices_with n edge) (weighted || is_some edge.weight) in
    let plain : (weighted || is_some edge.weight) ≡ false → weight_of edge ≡ 1 = λ none. plain_weight edge.weight edge.source edge.target (or_parts weighted (is_some edge.weight) none).1 in
    let there : P (pair_there edge) = record { source_below = omega arith; target_below = omega arith; weight_fits = fits; weight_plain = plain } in
    let back : P (pair_back edge) = record { source_below = omega arith; target_below = omega arith; weight_fits = fits; weight_plain = plain } in
    let backs : (b : Bool) → All P (cond b (pair_back edge ∷ []) []) = λ b. elim b as (λ b. All P (cond b (pair_back edge ∷ []) [])) [ true ↦ All-cons P (pair_back edge) [] back (All-nil P) | false ↦ All-nil P ] in
    All-cons P (pair_there edge) (cond (is_double undirected edge) (pair_back edge ∷ []) []) there (backs (is_double undirected edge))

-- with some first pairs of one more edge
pub gathered_more : (undirected : Bool) (edge : Edge) (n : ℕ) (weighted : Bool) (pairs new : List Pair) (k : ℕ) → edge.source < MAX_VERTICES → edge.target < MAX_VERTICES →
    length pairs + length (pairs_of undirected edge) ≤ MAX_ENTRIES → weight_of edge < 2 ^ 32 → new ≡ pairs ++ take k (pairs_of undirected edge) →
    AreGathered n weighted pairs → AreGathered (vertices_with n edge) (weighted || is_some edge.weight) new
gathered_more undirected edge n weighted pairs new k source target room fits e are =
    let more = pairs_of undirected edge in
    let P : Pair → Type 0 = IsPairOf (vertices_with n edge) (weighted || is_some edge.weight) in
    let old : All P pairs = All-weaker (IsPairOf n weighted) P (λ pair is. pair_stays n (vertices_with n edge) weighted (weighted || is_some edge.weight) pair (omega arith) (λ none. (or_parts weighted (is_some edge.weight) none).0) is) pairs are.each in
    let all : All P (pairs ++ take k more) = All-append P pairs (take k more) old (All-take P k more (edge_pairs undirected edge n weighted fits)) in
    let few : length (pairs ++ take k more) ≤ 2 ^ 26 = omega (arith, length-append pairs (take k more), length-take k more) in
    let Q : List Pair → Type 0 = AreGathered (vertices_with n edge) (weighted || is_some edge.weight) in
    subst Q (sym e) (record { vertex_count = omega (arith, are.vertex_count); pair_count = few; each = all })

-- once merged they are edges
pub edges_from_gathered : (n : ℕ) (weighted : Bool) (pairs kept : List Pair) → AreGathered n weighted pairs → IsMerged pairs kept → length kept ≤ length pairs →
    AreEdges (record { n = n; weighted = weighted; pairs = kept })
edges_from_gathered n weighted pairs kept are is few = record {
  vertex_count = are.vertex_count;
  pair_count = omega (arith, are.pair_count);
  each = All-weaker (Contains pairs) (IsPairOf n weighted) (λ pair in'. All-contains (IsPairOf n weighted) pairs pair are.each in') kept is.among;
  ascending = is.ascending;
}

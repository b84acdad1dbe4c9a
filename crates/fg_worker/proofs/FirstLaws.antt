-- Needed edges come in the order of their ranks, so the first bad one is the least.
use Rattle.std.proofs.Common.{◌≡◌, ℕ, zero, suc, ◌+◌, ◌*◌, ◌^◌, ◌≤◌, inl, inr, Bool, true, false, Option, None, Some, List, [], ◌∷◌, ◌++◌, length, refl, subst, sym, ap, arith, IsPermutation}
use Rattle.std.specs.Prelude.{All, filter, find}
use Rattle.std.specs.List.{Contains, flat_map, range_with_len}
use Rattle.std.proofs.lemmas.Bool.{both_ways}
use Rattle.std.proofs.lemmas.List.Elements.{All-cons, All-contains, All-head, All-nil, All-tail, All-weaker}
use Rattle.std.proofs.lemmas.List.Sorted.{All-permutation, Contains-permutation}
use Rattle.fg_base.specs.declared.plain.BadEdge.{BadEdge}
use Rattle.fg_base.specs.declared.plain.Dir.{Dir}
use Rattle.fg_base.specs.declared.plain.Dir.TheVariants.{Out, In}
use Rattle.fg_base.specs.declared.plain.Entry.{Entry}
use Rattle.fg_base.specs.declared.plain.Need.{Need}
use Rattle.fg_model.specs.declared.graph.Graph.{Graph}
use Rattle.fg_model.specs.Graph.{row}
use Rattle.fg_model.specs.Iteration.{is_bad}
use Rattle.fg_model.specs.VertexRun.{edges_from, edges_of}
use Rattle.fg_task.specs.Least.{IsLeast, IsLeastBad, rank, side}
use Rattle.fg_worker.proofs.ListLaws.{Contains-cases}

-- the ranks of the edges rise, from the one number on and before the other
abbrev pub Rises : ℕ → List BadEdge → ℕ → Type 0
Rises low [] high = low ≤ high
Rises low (edge ∷ edges) high = (low ≤ rank edge) × Rises (rank edge + 1) edges high

rises-lower : (low mid high : ℕ) (edges : List BadEdge) → low ≤ mid → Rises mid edges high → Rises low edges high
rises-lower low mid high [] under rises = omega (arith, under, rises)
rises-lower low mid high (edge ∷ edges) under rises = let first = rises.0 in (omega (arith, under, first), rises.1)

rises-higher : (low mid high : ℕ) (edges : List BadEdge) → mid ≤ high → Rises low edges mid → Rises low edges high
rises-higher low mid high [] over rises = omega (arith, over, rises)
rises-higher low mid high (edge ∷ edges) over rises = (rises.0, rises-higher (rank edge + 1) mid high edges over rises.1)

rises-append : (low mid high : ℕ) (xs ys : List BadEdge) → Rises low xs mid → Rises mid ys high → Rises low (xs ++ ys) high
rises-append low mid high [] ys one other = rises-lower low mid high ys one other
rises-append low mid high (x ∷ xs) ys one other = (one.0, rises-append (rank x + 1) mid high xs ys one.1 other)

rises-behind : (low high : ℕ) (edges : List BadEdge) → Rises low edges high → All (λ (edge : BadEdge). low ≤ rank edge) edges
rises-behind low high [] rises = All-nil (λ (edge : BadEdge). low ≤ rank edge)
rises-behind low high (edge ∷ edges) rises =
    All-cons (λ (one : BadEdge). low ≤ rank one) edge edges rises.0
    (All-weaker (λ (one : BadEdge). rank edge + 1 ≤ rank one) (λ (one : BadEdge). low ≤ rank one)
    (λ one behind. let first = rises.0 in omega (arith, behind, first)) edges (rises-behind (rank edge + 1) high edges rises.1))

-- the first bad one is the least
found-none : (n : ℕ) (edges : List BadEdge) → All (λ edge. is_bad n edge ≡ false) edges → None ≡ find (is_bad n) edges
found-none n [] fine = refl
found-none n (edge ∷ edges) fine =
    let test : is_bad n edge ≡ false = All-head (λ e. is_bad n e ≡ false) edge edges fine in
    rw test (found-none n edges (All-tail (λ e. is_bad n e ≡ false) edge edges fine))

found-first : (n low high : ℕ) (edges : List BadEdge) (bad : BadEdge) → Rises low edges high → IsLeast n edges bad → Some bad ≡ find (is_bad n) edges
found-first n low high [] bad rises least = absurd (omega (arith, least.among.1))
found-first n low high (edge ∷ edges) bad rises least =
    by_test (is_bad n edge) refl (λ (later : Contains edges bad). found-first n (rank edge + 1) high edges bad rises.1 (record {
      bad_itself = least.bad_itself;
      among = later;
      least = All-tail (λ (e : BadEdge). is_bad n e ≡ true → rank bad ≤ rank e) edge edges least.least;
    }))
  where
    by_test : (test : Bool) → is_bad n edge ≡ test → (Contains edges bad → Some bad ≡ find (is_bad n) edges) → Some bad ≡ find (is_bad n) (edge ∷ edges)
    by_test true test behind_it =
        elim (Contains-cases edge edges bad least.among) [
          | inl same ↦ rw test (ap (λ (e : BadEdge). Some e) (sym same))
          | inr later ↦
              let first = All-head (λ (e : BadEdge). is_bad n e ≡ true → rank bad ≤ rank e) edge edges least.least test in
              let behind = All-contains (λ (e : BadEdge). rank edge + 1 ≤ rank e) edges bad (rises-behind (rank edge + 1) high edges rises.1) later in
              absurd (omega (arith, first, behind))
        ]
    by_test false test behind_it =
        elim (Contains-cases edge edges bad least.among) [
          | inl same ↦ absurd (both_ways (is_bad n edge) test (subst (λ (e : BadEdge). is_bad n e ≡ true) (sym same) least.bad_itself))
          | inr later ↦ rw test (behind_it later)
        ]

pub least-is_found : (n low high : ℕ) (edges : List BadEdge) (bad : Option BadEdge) → Rises low edges high → IsLeastBad n edges bad → bad ≡ find (is_bad n) edges
least-is_found n low high edges None rises fine = found-none n edges fine
least-is_found n low high edges (Some bad) rises least = found-first n low high edges bad rises least

pub least-permuted : (n : ℕ) (xs ys : List BadEdge) (bad : Option BadEdge) → IsPermutation xs ys → IsLeastBad n xs bad → IsLeastBad n ys bad
least-permuted n xs ys None turned fine = All-permutation (λ edge. is_bad n edge ≡ false) xs ys turned fine
least-permuted n xs ys (Some bad) turned least = record {
  bad_itself = least.bad_itself;
  among = Contains-permutation xs ys bad turned least.among;
  least = All-permutation (λ edge. is_bad n edge ≡ true → rank bad ≤ rank edge) xs ys turned least.least;
}

-- the edges of a list, of a vertex, and of ascending vertices
list-rises : (v : ℕ) (dir : Dir) (place : ℕ) (entries : List Entry)
    → Rises ((v * 2 + side dir) * 2 ^ 32 + place) (edges_from v dir place entries) ((v * 2 + side dir) * 2 ^ 32 + place + length entries)
list-rises v dir place [] = omega arith
list-rises v dir place (entry ∷ entries) =
    let base : ℕ = (v * 2 + side dir) * 2 ^ 32 in
    let rest = list-rises v dir (place + 1) entries in
    let low : base + (place + 1) ≡ base + place + 1 = omega arith in
    let high : base + (place + 1) + length entries ≡ base + place + suc (length entries) = omega arith in (
      omega arith,
      subst (λ (k : ℕ). Rises k (edges_from v dir (place + 1) entries) (base + place + suc (length entries))) low
          (subst (λ (k : ℕ). Rises (base + (place + 1)) (edges_from v dir (place + 1) entries) k) high rest),
    )

-- no list has more entries than the numbers of entries tell apart
pub record FewEntries (graph : Graph) : Type 0 where
  pub few_outs : (v : ℕ) → length (row graph.outs v) ≤ 2 ^ 32
  pub few_ins : (v : ℕ) → length (row graph.ins v) ≤ 2 ^ 32

module _ (graph : Graph) (few : FewEntries graph) where
  outs-rise : (v : ℕ) → Rises (v * 2 * 2 ^ 32) (edges_from v Out 0 (row graph.outs v)) ((v * 2 + 1) * 2 ^ 32)
  outs-rise v =
      let fits = few.few_outs v in
      rises-higher _ _ _ (edges_from v Out 0 (row graph.outs v)) (under v (length (row graph.outs v)) fits)
      (rises-lower _ _ _ (edges_from v Out 0 (row graph.outs v)) (omega arith) (list-rises v Out 0 (row graph.outs v)))
    where
      under : (v count : ℕ) → count ≤ 2 ^ 32 → (v * 2 + 0) * 2 ^ 32 + 0 + count ≤ (v * 2 + 1) * 2 ^ 32
      under v count fits = omega (arith, fits)

  ins-rise : (v : ℕ) → Rises ((v * 2 + 1) * 2 ^ 32) (edges_from v In 0 (row graph.ins v)) ((v + 1) * 2 * 2 ^ 32)
  ins-rise v =
      let fits = few.few_ins v in
      rises-higher _ _ _ (edges_from v In 0 (row graph.ins v)) (under v (length (row graph.ins v)) fits)
      (rises-lower _ _ _ (edges_from v In 0 (row graph.ins v)) (omega arith) (list-rises v In 0 (row graph.ins v)))
    where
      under : (v count : ℕ) → count ≤ 2 ^ 32 → (v * 2 + 1) * 2 ^ 32 + 0 + count ≤ (v + 1) * 2 * 2 ^ 32
      under v count fits = omega (arith, fits)

  vertex-rises : (need : Need) (v : ℕ) → Rises (v * 2 * 2 ^ 32) (edges_of need graph v) ((v + 1) * 2 * 2 ^ 32)
  vertex-rises Need.Out v = rises-higher _ _ _ (edges_from v Out 0 (row graph.outs v)) (omega arith) (outs-rise v)
  vertex-rises Need.In v = rises-lower _ _ _ (edges_from v In 0 (row graph.ins v)) (omega arith) (ins-rise v)
  vertex-rises Need.Both v = rises-append _ _ _ (edges_from v Out 0 (row graph.outs v)) (edges_from v In 0 (row graph.ins v)) (outs-rise v) (ins-rise v)

  pub awake-rise : (need : Need) (test : ℕ → Bool) (a n : ℕ)
      → Rises (a * 2 * 2 ^ 32) (flat_map (edges_of need graph) (filter test (range_with_len a n))) ((a + n) * 2 * 2 ^ 32)
  awake-rise need test a zero = omega arith
  awake-rise need test a (suc n) =
      let same : (a + 1) + n ≡ a + suc n = omega arith in
      by_test (test a) refl (subst (λ (end : ℕ). Rises ((a + 1) * 2 * 2 ^ 32) (flat_map (edges_of need graph) (filter test (range_with_len (a + 1) n))) (end * 2 * 2 ^ 32))
      same (awake-rise need test (a + 1) n))
    where
      by_test : (awake : Bool) → test a ≡ awake
          → Rises ((a + 1) * 2 * 2 ^ 32) (flat_map (edges_of need graph) (filter test (range_with_len (a + 1) n))) ((a + suc n) * 2 * 2 ^ 32)
          → Rises (a * 2 * 2 ^ 32) (flat_map (edges_of need graph) (filter test (range_with_len a (suc n)))) ((a + suc n) * 2 * 2 ^ 32)
      by_test true is rest = rw is (rises-append _ _ _ (edges_of need graph a) (flat_map (edges_of need graph) (filter test (range_with_len (a + 1) n))) (vertex-rises need a) rest)
      by_test false is rest = rw is (rises-lower _ _ _ (flat_map (edges_of need graph) (filter test (range_with_len (a + 1) n))) (omega arith) rest)

-- What the tests' graph needs, and what its blocks come to.
use Rattle.std.proofs.Common.{◌≡◌, ℕ, zero, suc, ◌+◌, ◌*◌, ◌-◌, ◌%◌, ◌<◌, ◌≤◌, ◌^◌, ◌++◌, Bool, true, false, List, [], ◌∷◌, length, map, min, get_or, refl, replicate, ap, sym, subst, ◌∙◌, arith}
use mathlib.Core.List.{map-append}
use Rattle.std.specs.Prelude.{◌==◌, if◌then◌else◌, All, slice_index, sum_by}
use Rattle.std.specs.List.{flat_map, range_with_len}
use Rattle.std.proofs.lemmas.Bool.{false≢true}
use Rattle.std.proofs.lemmas.List.{get_or-replicate, length-append, length-replicate}
use Rattle.std.proofs.lemmas.List.Elements.{All-cons, All-filter, All-head, All-map, All-nil, All-tail, All-weaker}
use Rattle.std.proofs.lemmas.List.FromFn.{get_or-map-range_with_len, length-map-range_with_len, length-range_with_len}
use Rattle.std.proofs.lemmas.List.Sums.{sum_by-cons}
use Rattle.std.proofs.Math.Nat.{mod-lt}
use Rattle.fg_base.specs.declared.plain.Dir.{Dir}
use Rattle.fg_base.specs.declared.plain.Entry.{Entry}
use Rattle.fg_base.specs.declared.plain.Need.{Need}
use Rattle.fg_base.specs.declared.plain.VState.{VState}
use Rattle.fg_iter.specs.Lists.{AreBlockWeights, blocks_of}
use Rattle.fg_iter.specs.Ring.{AreBatchesOf, AreOfRuns, IsMailTo, entry_to, opened, ring, ring_lists}
use Rattle.fg_iter.proofs.ListLaws.{all_in_range, range-last}
use Rattle.fg_model.specs.declared.mail.Mail.{Mail}
use Rattle.fg_model.specs.Graph.{IsEntryOf, IsWithinLimits}
use Rattle.fg_model.specs.Iteration.{AreStates}
use Rattle.fg_model.specs.Program.{IsInRange, Rules}
use Rattle.fg_model.specs.Run.{opening_states}
use Rattle.fg_model.specs.VertexRun.{edges_from, edges_of}
use Rattle.fg_part.specs.declared.part_map.PartMap.{PartMap}
use Rattle.fg_part.specs.PartMap.{block_size, block_total}
use Rattle.fg_task.specs.Block.{awake_of, block_active, block_vertices, needed_of}
use Rattle.fg_task.specs.Blocks.{IsResult}
use Rattle.fg_task.specs.declared.block_result.BlockResult.{BlockResult}
use Rattle.fg_walks.specs.Bfs.{bfs}
use Rattle.fg_walks.specs.Spread.{none}

-- the two entries of a vertex of n
abbrev two_of : ℕ → ℕ → List Entry
two_of n v = entry_to ((v + 1) % n) ∷ entry_to ((3 * v + 1) % n) ∷ []

two_edges : (n v : ℕ) → v < n → length (edges_of Need.Out (ring n) v) ≡ 2
two_edges n v below =
    ap (λ (entries : List Entry). length (edges_from v Dir.Out 0 entries)) (get_or-map-range_with_len (two_of n) 0 n v v [] below (omega arith))

-- each of some vertices needs two entries
pub needed_twice : (source n : ℕ) (vertices : List ℕ) → All (λ (v : ℕ). v < n) vertices
    → length (needed_of (bfs source) (ring n) vertices) ≡ 2 * length vertices
unfolding bfs needed_of
needed_twice source n [] below = refl
needed_twice source n (v ∷ vertices) below =
    let first : v < n = All-head (λ (u : ℕ). u < n) v vertices below in
    let behind = needed_twice source n vertices (All-tail (λ (u : ℕ). u < n) v vertices below) in
    omega (arith, length-append (edges_of Need.Out (ring n) v) (flat_map (edges_of Need.Out (ring n)) vertices), two_edges n v first, behind)

all_below : (blocks : PartMap) (block : ℕ) → All (λ (v : ℕ). v < blocks.n) (block_vertices blocks block)
unfolding block_vertices
all_below blocks block =
    all_in_range (λ (v : ℕ). v < blocks.n) (block * block_size blocks) (min (block_size blocks) (blocks.n - block * block_size blocks))
    (λ v from below. omega (arith, from, below))

cut_short : (n at size end : ℕ) → end ≡ min n (at + size) → end - at ≡ min size (n - at)
cut_short n at size end is = omega (arith, is)

-- a block's active vertices, from its first vertex to the least of the last and the end
pub active_here : (P : Rules) (phase : ℕ) (states : List VState) (blocks : PartMap) (block size end : ℕ)
    → size ≡ block_size blocks → end ≡ min blocks.n (block * size + size)
    → awake_of P phase states (range_with_len (block * size) (end - block * size)) ≡ block_active P phase states blocks block
unfolding block_vertices
active_here P phase states blocks block size end same is =
    ap (λ (count : ℕ). awake_of P phase states (range_with_len (block * size) count)) (cut_short blocks.n (block * size) size end is)
    ∙ ap (λ (k : ℕ). awake_of P phase states (range_with_len (block * k) (min k (blocks.n - block * k)))) same

-- what a block needs
pub block_needs : (source n phase : ℕ) (states : List VState) (blocks : PartMap) (block : ℕ) → blocks.n ≡ n
    → length (needed_of (bfs source) (ring n) (block_active (bfs source) phase states blocks block))
    ≡ 2 * length (block_active (bfs source) phase states blocks block)
block_needs source n phase states blocks block same =
    let all : All (λ (v : ℕ). v < n) (block_vertices blocks block) =
    subst (λ (k : ℕ). All (λ (v : ℕ). v < k) (block_vertices blocks block)) same (all_below blocks block) in
    needed_twice source n (block_active (bfs source) phase states blocks block)
    (All-filter (λ v. (bfs source).wake phase (get_or states v (record { a = 0; b = 0; c = 0 }))) (λ (v : ℕ). v < n) (block_vertices blocks block) all)

-- the result of a block
pub is_result : (source n phase : ℕ) (states : List VState) (blocks : PartMap) (block entries : ℕ) (mails : List Mail) (result : BlockResult) → blocks.n ≡ n
    → result.block ≡ block → result.active ≡ length (block_active (bfs source) phase states blocks block) → result.sent ≡ 2 * result.active
    → AreOfRuns n mails result.active entries → AreBatchesOf blocks mails result.batches.items
    → IsResult (blocks_of (ring_lists n) (bfs source) blocks phase states) block result
is_result source n phase states blocks block entries mails result same own active sent of_runs are_all =
    let needs = block_needs source n phase states blocks block same in
    let count = ap (λ (all : List Mail). length all) are_all.all in
    record {
      own = own;
      cut = are_all.fit;
      fits = subst (λ (all : List Mail). All (λ (mail : Mail). mail.message < 2 ^ 64) all) (sym are_all.all)
          (All-weaker (IsMailTo n) (λ (mail : Mail). mail.message < 2 ^ 64) (λ mail is. is.fits) mails of_runs.all_fit);
      active = active;
      sent = omega (arith, sent, count, of_runs.two_each);
      few_sent = omega (arith, sent, active, needs);
      all_sent = λ none. omega (arith, sent, active, needs);
      bad = λ known. absurd (false≢true known);
      messages = λ known. absurd (false≢true known);
    }

-- the graph is within the limits
two_are_entries : (n v : ℕ) → v < n → n ≤ 2 ^ 24 → All (IsEntryOf false) (two_of n v)
two_are_entries n v below few =
    let some : 0 < n = omega (arith, below) in
    let next = mod-lt (v + 1) some in
    let far = mod-lt (3 * v + 1) some in
    All-cons (IsEntryOf false) (entry_to ((v + 1) % n)) (entry_to ((3 * v + 1) % n) ∷ [])
    (record { target_fits = omega (arith, next, few); weight_fits = omega arith; weight_plain = λ plain. refl })
    (All-cons (IsEntryOf false) (entry_to ((3 * v + 1) % n)) []
    (record { target_fits = omega (arith, far, few); weight_fits = omega arith; weight_plain = λ plain. refl })
    (All-nil (IsEntryOf false)))

sum_of_same : (f : ℕ → List Entry) (each from count : ℕ) → ((v : ℕ) → length (f v) ≡ each)
    → sum_by (λ (entries : List Entry). length entries) (map f (range_with_len from count)) ≡ count * each
sum_of_same f each from zero same = omega arith
sum_of_same f each from (suc count) same =
    let rest = sum_of_same f each (from + 1) count same in
    omega (arith, rest, same from, sum_by-cons (λ (entries : List Entry). length entries) (f from) (map f (range_with_len (from + 1) count)))

pub ring_fits : (n : ℕ) → n ≤ 2 ^ 24 → IsWithinLimits (ring n)
ring_fits n few = record {
  vertex_count = few;
  out_side = record {
    row_count = length-map-range_with_len (two_of n) 0 n;
    entry_count = omega (arith, few, sum_of_same (two_of n) 2 0 n (λ v. refl));
    all_entries = All-map (λ (entries : List Entry). All (IsEntryOf false) entries) (two_of n) (range_with_len 0 n)
        (all_in_range (λ (v : ℕ). All (IsEntryOf false) (two_of n v)) 0 n (λ v from below. two_are_entries n v (omega (arith, below)) few));
  };
  in_side = record {
    row_count = length-map-range_with_len {X = List Entry} (λ v. []) 0 n;
    entry_count = omega (arith, few, sum_of_same (λ v. []) 0 0 n (λ v. refl));
    all_entries = All-map (λ (entries : List Entry). All (IsEntryOf false) entries) (λ (v : ℕ). []) (range_with_len 0 n)
        (all_in_range (λ (v : ℕ). All (IsEntryOf false) []) 0 n (λ v from below. All-nil (IsEntryOf false)));
  };
}

-- twice a block's size is a weight for each block
pub ring_weights : (source n : ℕ) (blocks : PartMap) (weights : List ℕ) → blocks.n ≡ n → length weights ≡ block_total blocks
    → ((k : ℕ) → k < length weights → slice_index weights k ≡ 2 * block_size blocks) → AreBlockWeights (bfs source) (ring n) blocks weights
unfolding block_vertices
ring_weights source n blocks weights same one_each is = record {
  one_each = one_each;
  enough = λ block below.
      let all : All (λ (v : ℕ). v < n) (block_vertices blocks block) =
      subst (λ (k : ℕ). All (λ (v : ℕ). v < k) (block_vertices blocks block)) same (all_below blocks block) in
      let first = block * block_size blocks in
      let count = length-range_with_len first (min (block_size blocks) (blocks.n - first)) in
      omega (arith, needed_twice source n (block_vertices blocks block) all, count, is block (omega (arith, below, one_each)));
}

-- the opening states, one vertex after the other
pub opens_more : (source v : ℕ) (states : List VState) (state : VState) → states ≡ opened source v → state ≡ (bfs source).init v 2 0
    → states ++ state ∷ [] ≡ opened source (v + 1)
opens_more source v states state are is =
    let start : ℕ → VState = λ u. (bfs source).init u 2 0 in
    ap (λ (front : List VState). front ++ state ∷ []) are ∙ ap (λ (last : VState). opened source v ++ last ∷ []) is
    ∙ sym (map-append start (range_with_len 0 v) (v ∷ [])) ∙ ap (map start) (sym (range-last v))

pub opened_ring : (source n : ℕ) → opened source n ≡ opening_states (bfs source) (ring n)
unfolding bfs opening_states
opened_ring source n = refl

starts_fit_by : (reached : Bool) → IsInRange (record { a = (if reached then 0 else none); b = none; c = 0 })
starts_fit_by true = record { a_fits = omega arith; b_fits = omega arith; c_fits = omega arith }
starts_fit_by false = record { a_fits = omega arith; b_fits = omega arith; c_fits = omega arith }

starts_fit : (source v : ℕ) → IsInRange ((bfs source).init v 2 0)
unfolding bfs
starts_fit source v = starts_fit_by (v == source)

-- they are states of the ring
pub opened_fits : (source n : ℕ) → AreStates n (opened source n)
opened_fits source n = record {
  state_count = length-map-range_with_len (λ v. (bfs source).init v 2 0) 0 n;
  all_fit = All-map IsInRange (λ v. (bfs source).init v 2 0) (range_with_len 0 n)
      (all_in_range (λ v. IsInRange ((bfs source).init v 2 0)) 0 n (λ v from below. starts_fit source v));
}

-- so that as many as there are blocks are their weights
pub ring_weighs : (source n count weight : ℕ) (blocks : PartMap) (weights : List ℕ) → blocks.n ≡ n → weights ≡ replicate count weight
    → count ≡ block_total blocks → weight ≡ 2 * block_size blocks → AreBlockWeights (bfs source) (ring n) blocks weights
ring_weighs source n count weight blocks weights same are all each =
    let long = ap (λ (list : List ℕ). length list) are ∙ length-replicate {A = ℕ} count weight in
    ring_weights source n blocks weights same (long ∙ all)
    (λ k below. ap (λ (list : List ℕ). slice_index list k) are ∙ get_or-replicate count k weight _ (omega (arith, below, long)) ∙ each)

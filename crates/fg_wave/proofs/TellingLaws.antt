-- The first bad edge of blocks that rise, and the least one of results in any order.
use Rattle.std.proofs.Common.{◌≡◌, ℕ, zero, suc, ◌+◌, ◌-◌, ◌<◌, ◌≤◌, Option, None, Some, List, [], ◌∷◌, ◌++◌, map, length, get_or, refl, sym, ap, subst, ◌∙◌, arith}
use Rattle.std.proofs.lemmas.List.{get_or-map, length-map}
use Rattle.std.proofs.lemmas.List.Elements.{All-contains, All-map, All-push, Contains-append_left, Contains-append_right}
use Rattle.std.proofs.lemmas.List.FromFn.{get_or-map-range_with_len, length-map-range_with_len}
use Rattle.std.proofs.lemmas.List.Kept.{AllPairs-from_increasing}
use Rattle.std.proofs.lemmas.List.Sorted.{All-permutation, Contains-permutation, IsPermutation-sym}
use Rattle.std.specs.Prelude.{All, IfSome, IsSome, true}
use Rattle.std.specs.List.{Contains}
use Rattle.std.specs.List.Sorted.{IsStrictlyIncreasing}
use Rattle.fg_base.specs.declared.plain.BadEdge.{BadEdge}
use Rattle.fg_crew.specs.Wave.{IsWave, block_at, blocks_in}
use Rattle.fg_task.specs.Blocks.{Blocks, IsResult}
use Rattle.fg_task.specs.Spending.{NoneBad}
use Rattle.fg_task.specs.declared.block_result.BlockResult.{BlockResult}
use Rattle.fg_wave.specs.declared.telling.Found.{Found}
use Rattle.fg_wave.specs.Telling.{IsLeastBadOf, IsLeastFound, IsLeastOf, first_some}

pub first-past : {X : Type 0} (xs ys : List (Option X)) → first_some xs ≡ None → first_some (xs ++ ys) ≡ first_some ys
first-past [] ys none = refl
first-past (None ∷ xs) ys none = first-past xs ys none
first-past (Some x ∷ xs) ys none = cc

pub first-none : {X : Type 0} (xs : List (Option X)) → All (λ (x : Option X). x ≡ None) xs → first_some xs ≡ None
first-none [] none = refl
first-none (None ∷ xs) none = first-none xs (λ k d below. none (suc k) d (omega (arith, below)))
first-none {X = X} (Some x ∷ xs) none = none 0 None (omega arith)

pub first-at : {X : Type 0} (xs : List (Option X)) (k : ℕ) (x : X) (d : Option X) → k < length xs → get_or xs k d ≡ Some x
    → ((j : ℕ) → j < k → get_or xs j d ≡ None) → first_some xs ≡ Some x
first-at [] k x d below here before = absurd (omega (arith, below))
first-at (None ∷ xs) zero x d below here before = cc
first-at (None ∷ xs) (suc k) x d below here before = first-at xs k x d (omega (arith, below)) here (λ j under. before (suc j) (omega (arith, under)))
first-at (Some y ∷ xs) zero x d below here before = here
first-at (Some y ∷ xs) (suc k) x d below here before = let none = before 0 (omega arith) in cc

-- an edge that is none isn't there
pub no-edge : (bad : Option BadEdge) → bad ≡ None → IsSome bad → ⊥
no-edge None is some = cc
no-edge (Some edge) is some = cc

pub first-stays : (xs ys : List (Option BadEdge)) → IsSome (first_some xs) → first_some (xs ++ ys) ≡ first_some xs
first-stays [] ys some = absurd (no-edge None refl some)
first-stays (None ∷ xs) ys some = first-stays xs ys some
first-stays (Some y ∷ xs) ys some = refl

-- one result more
module _ (before : List BlockResult) (one : BlockResult) where
  pub least-still : (block : ℕ) (bad : BadEdge) → (IsSome one.bad → block ≤ one.block) → IsLeastOf before block bad → IsLeastOf (before ++ one ∷ []) block bad
  least-still block bad here least = record {
    result = least.result;
    among = Contains-append_left before (one ∷ []) least.result least.among;
    own = least.own;
    edge = least.edge;
    least = All-push (λ (other : BlockResult). IsSome other.bad → block ≤ other.block) before one least.least here;
  }

  pub found-still : (first : Option Found) → one.bad ≡ None → IsLeastFound before first → IsLeastFound (before ++ one ∷ []) first
  found-still None none fine = All-push (λ (other : BlockResult). other.bad ≡ None) before one fine none
  found-still (Some found) none least = least-still found.block found.bad (λ some. absurd (no-edge one.bad none some)) least

  pub least-now : (bad : BadEdge) → one.bad ≡ Some bad → All (λ (other : BlockResult). IsSome other.bad → one.block ≤ other.block) before → IsLeastOf (before ++ one ∷ []) one.block bad
  least-now bad is above = record {
    result = one;
    among = Contains-append_right before (one ∷ []) one (0, omega arith, refl);
    own = refl;
    edge = is;
    least = All-push (λ (other : BlockResult). IsSome other.bad → one.block ≤ other.block) before one above (λ _. omega arith);
  }

  pub found-now : (first : Option Found) (bad : BadEdge) → one.bad ≡ Some bad → IfSome first (λ (found : Found). one.block ≤ found.block) → IsLeastFound before first
      → IsLeastOf (before ++ one ∷ []) one.block bad
  found-now None bad is before_all fine = least-now bad is (λ k d below some. absurd (no-edge _ (fine k d below) some))
  found-now (Some found) bad is less least = least-now bad is (λ k d below some. let up = least.least k d below some in omega (arith, less, up))

-- a block that is less than all that have one has none
none-less : (bad : Option BadEdge) (least block : ℕ) → (IsSome bad → least ≤ block) → block < least → bad ≡ None
none-less None least block known less = refl
none-less (Some edge) least block known less = absurd (omega (arith, known refl, less))

module _ (blocks : Blocks) (list : List ℕ) (from to : ℕ) (results : List BlockResult) (wave : IsWave blocks list from to results) (known : blocks.knows ≡ true) where
  -- what holds of the block of each result holds of each block of the wave
  over_wave : (P : ℕ → Type 0) → All (λ (one : BlockResult). P one.block) results → All P (blocks_in list from to)
  over_wave P all =
      All-permutation P (map (λ (one : BlockResult). one.block) results) (blocks_in list from to)
      (IsPermutation-sym (blocks_in list from to) (map (λ (one : BlockResult). one.block) results) wave.once)
      (All-map P (λ (one : BlockResult). one.block) results all)

  none-over : NoneBad results → All (λ (block : ℕ). blocks.bad_of block ≡ None) (blocks_in list from to)
  none-over none =
      over_wave (λ (block : ℕ). blocks.bad_of block ≡ None)
      (λ k d below. sym ((wave.each_own k d below).bad known) ∙ none k d below)

  least-over : (block : ℕ) → All (λ (other : BlockResult). IsSome other.bad → block ≤ other.block) results
      → All (λ (other : ℕ). IsSome (blocks.bad_of other) → block ≤ other) (blocks_in list from to)
  least-over block least =
      over_wave (λ (other : ℕ). IsSome (blocks.bad_of other) → block ≤ other)
      (λ k d below some. least k d below (subst (λ (bad : Option BadEdge). IsSome bad) (sym ((wave.each_own k d below).bad known)) some))

  stands : (one : BlockResult) → Contains results one → Contains (blocks_in list from to) one.block
  stands one among =
      Contains-permutation (map (λ (other : BlockResult). other.block) results) (blocks_in list from to) one.block
      (IsPermutation-sym (blocks_in list from to) (map (λ (other : BlockResult). other.block) results) wave.once) (
        among.0,
        omega (arith, among.1, length-map results (λ (other : BlockResult). other.block)),
        get_or-map (λ (other : BlockResult). other.block) results among.0 one one.block among.1 ∙ ap (λ (other : BlockResult). other.block) among.2,
      )

  own-edge : (one : BlockResult) → Contains results one → one.bad ≡ blocks.bad_of one.block
  own-edge one among = (All-contains (λ (other : BlockResult). IsResult blocks other.block other) results one wave.each_own among).bad known

  module _ (rises : IsStrictlyIncreasing list) (inside : to ≤ length list) where
    -- the blocks of the wave rise
    rising : (i j : ℕ) (d e : ℕ) → i < j → j < length (blocks_in list from to) → get_or (blocks_in list from to) i d < get_or (blocks_in list from to) j e
    rising i j d e before below =
        let under : j < to - from = omega (arith, below, length-map-range_with_len (block_at list) from (to - from)) in
        let one = get_or-map-range_with_len (block_at list) from (to - from) i (from + i) d (omega (arith, before, under)) refl in
        let other = get_or-map-range_with_len (block_at list) from (to - from) j (from + j) e under refl in
        let rise = AllPairs-from_increasing list rises (from + i) (from + j) 0 (omega (arith, before)) (omega (arith, under, inside)) in
        omega (arith, one, other, rise)

    pub least_is_first : (bad : Option BadEdge) → IsLeastBadOf results bad → bad ≡ first_some (map blocks.bad_of (blocks_in list from to))
    least_is_first None none = sym (first-none (map blocks.bad_of (blocks_in list from to)) (All-map (λ (bad : Option BadEdge). bad ≡ None) blocks.bad_of (blocks_in list from to) (none-over none)))
    least_is_first (Some bad) found =
        let block = found.0 in
        let least = found.1 in
        let all = blocks_in list from to in
        let one = least.result in
        let place = stands one least.among in
        let edge : blocks.bad_of one.block ≡ Some bad = sym (own-edge one least.among) ∙ least.edge in
        let count : length (map blocks.bad_of all) ≡ length all = length-map all blocks.bad_of in
        let here : get_or (map blocks.bad_of all) place.0 None ≡ Some bad = get_or-map blocks.bad_of all place.0 one.block None place.1 ∙ ap blocks.bad_of place.2 ∙ edge in
        let before : (j : ℕ) → j < place.0 → get_or (map blocks.bad_of all) j None ≡ None =
        λ j under.
        let within : j < length all = omega (arith, under, place.1) in
        let less = rising j place.0 one.block one.block under place.1 in
        get_or-map blocks.bad_of all j one.block None within
        ∙ none-less (blocks.bad_of (get_or all j one.block)) block (get_or all j one.block) (least-over block least.least j one.block within) (omega (arith, less, place.2, least.own)) in
        sym (first-at (map blocks.bad_of all) place.0 bad None (omega (arith, count, place.1)) here before)

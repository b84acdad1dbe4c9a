-- Drives that hold no whole page, one after another.
use Rattle.std.proofs.Common.{◌≡◌, ◌≢◌, ◌∙◌, ℕ, zero, suc, ◌+◌, ◌<◌, ◌≤◌, Option, IfSome, List, [], ◌∷◌, length, take, slice_index_or, sym, subst, arith}
use Rattle.std.proofs.lemmas.List.{take_all}
use Rattle.fg_build.specs.Building.{AreEmpty, IsFirstFull}
use Rattle.fg_build.proofs.CallLaws.{IfSome-all, IfSome-both, all_told-before}
use Rattle.fg_outside.specs.Drives.{EachSame, all_told}
use Rattle.fg_outside.specs.Pages.{page_count}
use Rattle.fg_outside.proofs.DriveLemmas.{all_told-length}

-- one more that holds none
empty_more : (helds : List (List ℕ)) (drive : ℕ) → drive < length helds → AreEmpty (take drive helds) → 0 ≡ page_count (slice_index_or helds drive []) → AreEmpty (take (suc drive) helds)
empty_more [] drive within empty none = absurd (omega (arith, within))
empty_more (held ∷ helds) zero within empty none = (omega (arith, none), tt)
empty_more (held ∷ helds) (suc drive) within empty none = (empty.0, empty_more helds drive (omega (arith, within)) empty.1 none)

-- the first that holds one
full_first : (helds : List (List ℕ)) (drive pages : ℕ) → drive < length helds → AreEmpty (take drive helds) → pages ≢ 0 → pages ≡ page_count (slice_index_or helds drive []) → IsFirstFull drive helds
full_first [] drive pages within empty some count = absurd (omega (arith, within))
full_first (held ∷ helds) zero pages within empty some count = omega (arith, some, count)
full_first (held ∷ helds) (suc drive) pages within empty some count = (empty.0, full_first helds drive pages (omega (arith, within)) empty.1 some count)

module _ {D : Type 0} (held : D → Option (List ℕ)) (olds currents : List D) (drive pages : ℕ) (same : EachSame held olds currents) (within : drive < length olds)
    (so_far : IfSome (all_told held olds) (λ helds. AreEmpty (take drive helds)))
    (count : IfSome (all_told held currents) (λ helds. pages ≡ page_count (slice_index_or helds drive []))) where
  pub look_more : pages ≡ 0 → IfSome (all_told held olds) (λ helds. AreEmpty (take (drive + 1) helds))
  look_more none =
      IfSome-all (all_told held olds) _ _ _ _ _
      (λ helds many empty counted again.
      let next : suc drive ≡ drive + 1 = omega arith in
      let P : ℕ → Type 0 = λ n. AreEmpty (take n helds) in
      subst P next (empty_more helds drive (omega (arith, many, within)) empty (sym none ∙ counted)))
      (all_told-length held olds) so_far (all_told-before held olds currents _ same count) so_far

  pub look_stops : pages ≢ 0 → IfSome (all_told held olds) (λ helds. IsFirstFull drive helds)
  look_stops some =
      IfSome-all (all_told held olds) _ _ _ _ _
      (λ helds many empty counted again. full_first helds drive pages (omega (arith, many, within)) empty some counted)
      (all_told-length held olds) so_far (all_told-before held olds currents _ same count) so_far

-- all of them
pub look_ends : {D : Type 0} (held : D → Option (List ℕ)) (olds : List D) (drive : ℕ) → length olds ≤ drive → IfSome (all_told held olds) (λ helds. AreEmpty (take drive helds))
    → IfSome (all_told held olds) AreEmpty
look_ends held olds drive all so_far =
    IfSome-both (all_told held olds) _ _ _
    (λ helds many empty. subst AreEmpty (take_all drive helds (omega (arith, many, all))) empty)
    (all_told-length held olds) so_far

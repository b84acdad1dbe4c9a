-- The places of a wave are dealt out each once.
use Rattle.std.proofs.Common.{◌≡◌, ℕ, zero, suc, ◌+◌, ◌*◌, ◌/◌, ◌%◌, ◌<◌, ◌≤◌, ◌≢◌, List, map, slice_index, refl, sym, ap, ap₂, ◌∙◌, ⊎_elim, arith, IsPermutation}
use Rattle.std.proofs.Math.Nat.{mod-lt}
use Rattle.std.proofs.lemmas.Bool.{cases_eq, cases_lt}
use Rattle.std.proofs.lemmas.List.{get_or_past}
use Rattle.std.proofs.lemmas.List.Sorted.{IsPermutation-sym, IsPermutation-trans, sum_by-IsPermutation}
use Rattle.std.proofs.lemmas.Nat.{div-add-mod', div-mul-add, mod-mul-add}
use Rattle.std.specs.List.{range_with_len, sum_by}
use Rattle.fg_crew.specs.Claimed.{Deals, place_drawn}
use Rattle.fg_steal.specs.Claims.{EachOnce, all_blocks, times_drawn}
use Rattle.fg_steal.proofs.AllBlocks.{all_blocks_drawn, hits, times_cons}
use Rattle.fg_steal.proofs.Times.{other_block, other_part, same_draw}

-- the draw of a place
abbrev pub draw_of : ℕ → ℕ → ℕ × ℕ
draw_of parts place = (place % parts, place / parts)

pub place_of_draw : (parts place : ℕ) → place_drawn parts (draw_of parts place) ≡ place
place_of_draw parts place = div-add-mod' place parts

module _ (counts : List ℕ) (count parts : ℕ) (deals : Deals counts count parts) where
  abbrev pub draws_from : ℕ → ℕ → List (ℕ × ℕ)
  draws_from from many = map (draw_of parts) (range_with_len from many)

  -- a draw is another one than that of a place that isn't its own
  miss : (part k place : ℕ) → part < parts → k * parts + part ≢ place → hits part k (draw_of parts place) ≡ 0
  miss part k place own differ = ⊎_elim
      (λ (same : part ≡ place % parts). other_block part k (place % parts) (place / parts) same
      (λ (level : place / parts ≡ k). differ (ap₂ (λ (a b : ℕ). a * parts + b) (sym level) same ∙ place_of_draw parts place)))
      (λ (other : part ≢ place % parts). other_part part k (place % parts) (place / parts) other)
      (cases_eq part (place % parts))

  hit : (part k place : ℕ) → part < parts → k * parts + part ≡ place → hits part k (draw_of parts place) ≡ 1
  hit part k place own is =
      let rest : part ≡ place % parts = sym (ap (λ (n : ℕ). n % parts) (sym is) ∙ mod-mul-add k parts part own) in
      let whole : place / parts ≡ k = ap (λ (n : ℕ). n / parts) (sym is) ∙ div-mul-add k parts part own in
      same_draw part k (place % parts) (place / parts) rest whole

  never : (part k from many : ℕ) → part < parts → ((place : ℕ) → from ≤ place → place < from + many → k * parts + part ≢ place) → times_drawn part k (draws_from from many) ≡ 0
  never part k from zero own none = refl
  never part k from (suc many) own none =
      omega (
        arith,
        times_cons part k (draw_of parts from) (draws_from (from + 1) many),
        miss part k from own (none from (omega arith) (omega arith)),
        never part k (from + 1) many own (λ place above below. none place (omega arith) (omega arith)),
      )

  within : (part k from many : ℕ) → part < parts → from ≤ k * parts + part → k * parts + part < from + many → times_drawn part k (draws_from from many) ≡ 1
  within part k from zero own above below = absurd (omega (arith, above, below))
  within part k from (suc many) own above below =
      ⊎_elim
      (λ (here : k * parts + part ≡ from). omega (
        arith,
        times_cons part k (draw_of parts from) (draws_from (from + 1) many),
        hit part k from own here,
        never part k (from + 1) many own (λ place over under same. absurd (omega (arith, here, over, same))),
      ))
      (λ (further : k * parts + part ≢ from). omega (
        arith,
        times_cons part k (draw_of parts from) (draws_from (from + 1) many),
        miss part k from own further,
        within part k (from + 1) many own (omega (arith, above, further)) (omega (arith, below)),
      ))
      (cases_eq (k * parts + part) from)

  -- a part beyond the last is no place's
  no_part : (part k from many : ℕ) → parts ≤ part → times_drawn part k (draws_from from many) ≡ 0
  no_part part k from zero beyond = refl
  no_part part k from (suc many) beyond =
      let rest : from % parts < parts = mod-lt from deals.some in
      omega (
        arith,
        times_cons part k (draw_of parts from) (draws_from (from + 1) many),
        other_part part k (from % parts) (from / parts) (λ same. absurd (omega (arith, rest, same, beyond))),
        no_part part k (from + 1) many beyond,
      )

  pub spots_once : EachOnce counts (draws_from 0 count)
  spots_once = record { once = once; nothing_else = nothing_else }
    where
      once : (part k : ℕ) → k < slice_index counts part → times_drawn part k (draws_from 0 count) ≡ 1
      once part k below = ⊎_elim
          (λ (own : part < parts). within part k 0 count own (omega arith) (omega (arith, deals.within part k own below)))
          (λ (beyond : parts ≤ part). let none : slice_index counts part ≡ 0 = get_or_past counts part 0 (omega (arith, beyond, deals.one_each)) in absurd (omega (arith, below, none)))
          (cases_lt part parts)

      nothing_else : (part k : ℕ) → slice_index counts part ≤ k → times_drawn part k (draws_from 0 count) ≡ 0
      nothing_else part k over = ⊎_elim
          (λ (own : part < parts). never part k 0 count own (λ place above below same. let found = deals.all part k own (omega (arith, same, below)) in absurd (omega (arith, over, found))))
          (λ (beyond : parts ≤ part). no_part part k 0 count beyond)
          (cases_lt part parts)

  -- so draws that have each block once are those of all places
  pub all_places : (draws : List (ℕ × ℕ)) → EachOnce counts draws → IsPermutation (draws_from 0 count) draws
  all_places draws each =
      IsPermutation-trans _ _ _ (IsPermutation-sym _ _ (all_blocks_drawn counts (draws_from 0 count) spots_once)) (all_blocks_drawn counts draws each)

  pub sum_of_blocks : (f : ℕ × ℕ → ℕ) → sum_by f (all_blocks counts) ≡ sum_by f (draws_from 0 count)
  sum_of_blocks f = sym (sum_by-IsPermutation f (all_blocks counts) (draws_from 0 count) (all_blocks_drawn counts (draws_from 0 count) spots_once))

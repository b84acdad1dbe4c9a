-- What was drawn, and its results.
use Rattle.std.proofs.Common.{◌≡◌, ℕ, zero, suc, ◌+◌, ◌-◌, ◌<◌, ◌≤◌, List, [], ◌∷◌, ◌++◌, map, slice_index, refl, sym, ap, ap₂, ◌∙◌, subst, arith}
use Rattle.std.proofs.lemmas.List.{map-append}
use Rattle.std.proofs.lemmas.List.Elements.{All-push}
use Rattle.std.proofs.lemmas.List.Sums.{sum_by_push}
use Rattle.std.specs.List.{range_with_len, sum_by}
use Rattle.fg_task.specs.declared.block_result.BlockResult.{BlockResult}
use Rattle.fg_task.specs.Blocks.{IsResult}
use Rattle.fg_crew.specs.Claimed.{AddsResult, AreResults, IsDealt, Plan, block_drawn, in_drawn, place_drawn}
use Rattle.fg_crew.specs.Wave.{block_at, blocks_in, in_all}
use Rattle.fg_crew.proofs.DealLaws.{draw_of, place_of_draw, sum_of_blocks}
use Rattle.fg_crew.proofs.ListLaws.{sum_by-map}
use Rattle.fg_steal.specs.Claims.{AtMostOnce, times_drawn}
use Rattle.fg_steal.proofs.AllBlocks.{at_most_more, within_all}

module _ (plan : Plan) where
  pub in_drawn-more : (of : ℕ → ℕ) (drawn : List (ℕ × ℕ)) (part k : ℕ) → in_drawn plan of (drawn ++ (part, k) ∷ []) ≡ in_drawn plan of drawn + of (block_drawn plan (part, k))
  in_drawn-more of drawn part k = sum_by_push (λ draw. of (block_drawn plan draw)) drawn (part, k)

  -- the blocks of all places in turn are those of the wave
  blocks_from : (many base place : ℕ) → base ≡ plan.from + place
      → map (block_drawn plan) (map (draw_of plan.parts) (range_with_len place many)) ≡ map (block_at plan.list) (range_with_len base many)
  blocks_from zero base place is = refl
  blocks_from (suc many) base place is =
      let here : plan.from + place_drawn plan.parts (draw_of plan.parts place) ≡ base = omega (arith, is, place_of_draw plan.parts place) in
      ap₂ (λ (b : ℕ) (l : List ℕ). block_at plan.list b ∷ l) here (blocks_from many (base + 1) (place + 1) (omega (arith, is)))

  pub blocks_dealt : map (block_drawn plan) (map (draw_of plan.parts) (range_with_len 0 (plan.to - plan.from))) ≡ blocks_in plan.list plan.from plan.to
  blocks_dealt = blocks_from (plan.to - plan.from) plan.from 0 (omega arith)

  -- draws that have each block at most once come to no more than the wave
  pub drawn_within : IsDealt plan → (of : ℕ → ℕ) (drawn : List (ℕ × ℕ)) → AtMostOnce plan.counts drawn → in_drawn plan of drawn ≤ in_all of plan.list plan.from plan.to
  drawn_within dealt of drawn once =
      let most = within_all (λ draw. of (block_drawn plan draw)) plan.counts drawn once in
      let all = sum_of_blocks plan.counts (plan.to - plan.from) plan.parts dealt.deals (λ draw. of (block_drawn plan draw)) in
      let places = map (draw_of plan.parts) (range_with_len 0 (plan.to - plan.from)) in
      let turned = sum_by-map of (block_drawn plan) places in
      omega (arith, most, all, turned, ap (sum_by of) blocks_dealt)

  -- one draw more has one result more
  pub results-more : (drawn : List (ℕ × ℕ)) (before after : List BlockResult) (part k : ℕ) → AreResults plan drawn before
      → k < slice_index plan.counts part → times_drawn part k drawn ≡ 0 → AddsResult plan.blocks (block_drawn plan (part, k)) before after
      → AreResults plan (drawn ++ (part, k) ∷ []) after
  results-more drawn before after part k are below new adds =
      let own = λ (one : BlockResult). IsResult plan.blocks one.block one in
      let last = adds.result in
      let mine : own last = subst (λ (b : ℕ). IsResult plan.blocks b last) (sym adds.is.own) adds.is in
      subst (AreResults plan (drawn ++ (part, k) ∷ [])) (sym adds.added) (record {
        once = at_most_more plan.counts drawn part k are.once below new;
        same = map-append (λ (one : BlockResult). one.block) before (last ∷ [])
            ∙ ap₂ (λ (l m : List ℕ). l ++ m) are.same (ap (λ (b : ℕ). b ∷ []) adds.is.own)
            ∙ sym (map-append (block_drawn plan) drawn ((part, k) ∷ []));
        each_own = All-push own before last are.each_own mine;
      })

-- Where each place was drawn once, the results are those of the wave.
use Rattle.std.proofs.Common.{◌≡◌, ℕ, ◌-◌, ◌≤◌, None, List, map, sym, ◌∙◌, subst, arith, IsPermutation}
use Rattle.std.proofs.lemmas.List.Elements.{All-weaker}
use Rattle.std.proofs.lemmas.List.Folds.{flat_map-map}
use Rattle.std.proofs.lemmas.List.Sorted.{IsPermutation-map, IsPermutation-trans, sum_by-IsPermutation}
use Rattle.std.specs.Prelude.{All}
use Rattle.std.specs.List.{flat_map, range_with_len, sum_by}
use Rattle.fg_task.specs.declared.block_result.BlockResult.{BlockResult}
use Rattle.fg_task.specs.Blocks.{Blocks, IsResult, mail_of}
use Rattle.fg_crew.specs.Claimed.{IsDealt, Plan, block_drawn}
use Rattle.fg_task.specs.Spending.{NoneBad, sent_in}
use Rattle.fg_crew.specs.Wave.{IsWave, blocks_in, in_all}
use Rattle.fg_crew.proofs.DealLaws.{all_places, draw_of}
use Rattle.fg_crew.proofs.DrawLaws.{blocks_dealt}
use Rattle.fg_crew.proofs.ListLaws.{IsPermutation-flat_each, IsPermutation-flat_map, sum_by-fewer, sum_by-map, sum_by-same}
use Rattle.fg_model.specs.declared.mail.Mail.{Mail}
use Rattle.fg_steal.specs.Claims.{EachOnce}

module _ (blocks : Blocks) (list : List ℕ) (from to : ℕ) (results : List BlockResult)
    (once : IsPermutation (blocks_in list from to) (map (λ (one : BlockResult). one.block) results))
    (each_own : All (λ (one : BlockResult). IsResult blocks one.block one) results) where
  -- a number for each block comes over the results to what it comes to over the wave
  in_results : (of : ℕ → ℕ) → sum_by (λ (one : BlockResult). of one.block) results ≡ in_all of list from to
  in_results of = sym (sum_by-map of (λ (one : BlockResult). one.block) results) ∙ sum_by-IsPermutation of (blocks_in list from to) (map (λ (one : BlockResult). one.block) results) once

  each : (P : BlockResult → Type 0) → ((one : BlockResult) → IsResult blocks one.block one → P one) → All P results
  each P holds = All-weaker (λ (one : BlockResult). IsResult blocks one.block one) P holds results each_own

  -- and where none is bad, of each its own
  each_fine : (P : BlockResult → Type 0) → NoneBad results → ((one : BlockResult) → IsResult blocks one.block one → one.bad ≡ None → P one) → All P results
  each_fine P none holds = λ k d below. holds _ (each_own k d below) (none k d below)

  sent_needed : NoneBad results → sent_in results ≡ sum_by (λ (one : BlockResult). blocks.needed_of one.block) results
  sent_needed none = sum_by-same (λ (one : BlockResult). one.sent) (λ (one : BlockResult). blocks.needed_of one.block) results
      (each_fine (λ (one : BlockResult). one.sent ≡ blocks.needed_of one.block) none (λ one is fine. is.all_sent fine))

  pub wave_is : IsWave blocks list from to results
  wave_is = record {
    once = once;
    each_own = each_own;
    active = sum_by-same (λ (one : BlockResult). one.active) (λ (one : BlockResult). blocks.active_of one.block) results
        (each (λ (one : BlockResult). one.active ≡ blocks.active_of one.block) (λ one is. is.active)) ∙ in_results blocks.active_of;
    visits = in_results blocks.visits_of;
    few_sent = let few = sum_by-fewer (λ (one : BlockResult). one.sent) (λ (one : BlockResult). blocks.needed_of one.block) results
        (each (λ (one : BlockResult). one.sent ≤ blocks.needed_of one.block) (λ one is. is.few_sent)) in omega (arith, few, in_results blocks.needed_of);
    all_sent = λ none. sent_needed none ∙ in_results blocks.needed_of;
    messages = λ known.
        let own = IsPermutation-flat_each (λ (one : BlockResult). blocks.mail_of one.block) (λ (one : BlockResult). mail_of one) results
        (each (λ (one : BlockResult). IsPermutation (blocks.mail_of one.block) (mail_of one)) (λ one is. is.messages known)) in
        let turned = IsPermutation-flat_map blocks.mail_of (blocks_in list from to) (map (λ (one : BlockResult). one.block) results) once in
        IsPermutation-trans _ _ _ turned (subst (λ (l : List Mail). IsPermutation l (flat_map mail_of results)) (sym (flat_map-map blocks.mail_of (λ (one : BlockResult). one.block) results)) own);
  }

-- each place drawn once gives each block of the wave once
pub each_block_once : (plan : Plan) → IsDealt plan → (drawn : List (ℕ × ℕ)) (results : List BlockResult) → EachOnce plan.counts drawn
    → map (λ (one : BlockResult). one.block) results ≡ map (block_drawn plan) drawn
    → IsPermutation (blocks_in plan.list plan.from plan.to) (map (λ (one : BlockResult). one.block) results)
each_block_once plan dealt drawn results each same =
    let places = map (draw_of plan.parts) (range_with_len 0 (plan.to - plan.from)) in
    let turned = IsPermutation-map (block_drawn plan) places drawn (all_places plan.counts (plan.to - plan.from) plan.parts dealt.deals drawn each) in
    subst (λ (l : List ℕ). IsPermutation (blocks_in plan.list plan.from plan.to) l) (sym same)
    (subst (λ (l : List ℕ). IsPermutation l (map (block_drawn plan) drawn)) (blocks_dealt plan) turned)

-- What a worker spends on what it draws leaves room for the rest of the wave.
use Rattle.std.proofs.Common.{◌≡◌, ℕ, ◌<◌, List, [], ◌∷◌, ◌++◌, slice_index, ap, arith}
use Rattle.fg_crew.specs.Claimed.{IsDealt, Plan, SpentOnDraws, WithinRoom, block_drawn, in_drawn}
use Rattle.fg_task.specs.Spending.{Counted, HasRoom, SpentUpTo}
use Rattle.fg_crew.proofs.DrawLaws.{drawn_within, in_drawn-more}
use Rattle.fg_steal.specs.Claims.{AtMostOnce, times_drawn}
use Rattle.fg_steal.proofs.AllBlocks.{at_most_more}

module _ (plan : Plan) where
  pub draws-none : (now : Counted) (drawn : List (ℕ × ℕ)) → SpentOnDraws plan now now drawn drawn
  draws-none now drawn = record { few_runs = omega arith; few_entries = omega arith }

  module _ (first now : Counted) (before drawn : List (ℕ × ℕ)) (so_far : SpentOnDraws plan first now before drawn) where
    -- room that there was at first is there still
    pub room-later : WithinRoom plan first before → WithinRoom plan now drawn
    room-later room = record {
      for_runs = omega (arith, room.for_runs, so_far.few_runs);
      for_entries = omega (arith, room.for_entries, so_far.few_entries);
    }

    pub draws-then : (last : Counted) (after : List (ℕ × ℕ)) → SpentOnDraws plan now last drawn after → SpentOnDraws plan first last before after
    draws-then last after more = record {
      few_runs = omega (arith, so_far.few_runs, more.few_runs);
      few_entries = omega (arith, so_far.few_entries, more.few_entries);
    }

    -- one draw more, of this block
    pub draws-more : (part k block : ℕ) (last : Counted) (after : List (ℕ × ℕ)) → block ≡ block_drawn plan (part, k) → after ≡ drawn ++ (part, k) ∷ []
        → SpentUpTo now last (plan.blocks.active_of block) (plan.blocks.needed_of block) → SpentOnDraws plan first last before after
    draws-more part k block last after own more few =
        let active = plan.blocks.active_of in
        let needed = plan.blocks.needed_of in
        record {
          few_runs = omega (arith, so_far.few_runs, few.few_runs, ap active own, ap (in_drawn plan active) more, in_drawn-more plan active drawn part k);
          few_entries = omega (arith, so_far.few_entries, few.few_entries, ap needed own, ap (in_drawn plan needed) more, in_drawn-more plan needed drawn part k);
        }

  -- for a block that wasn't drawn
  pub room-for_one : IsDealt plan → (now : Counted) (drawn : List (ℕ × ℕ)) (part k : ℕ) → WithinRoom plan now drawn → AtMostOnce plan.counts drawn
      → k < slice_index plan.counts part → times_drawn part k drawn ≡ 0
      → HasRoom now (plan.blocks.active_of (block_drawn plan (part, k))) (plan.blocks.needed_of (block_drawn plan (part, k)))
  room-for_one dealt now drawn part k room once below new =
      let more = drawn ++ (part, k) ∷ [] in
      let still = at_most_more plan.counts drawn part k once below new in
      record {
        for_runs = omega (arith, room.for_runs, in_drawn-more plan plan.blocks.active_of drawn part k, drawn_within plan dealt plan.blocks.active_of more still);
        for_entries = omega (arith, room.for_entries, in_drawn-more plan plan.blocks.needed_of drawn part k, drawn_within plan dealt plan.blocks.needed_of more still);
      }

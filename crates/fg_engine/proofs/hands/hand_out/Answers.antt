use Rattle.std.proofs.Common.{◌≡◌, ◌∙◌, Some, length, ap, subst, sym, arith}
use Rattle.std.specs.List.{sum_by}
use Rattle.std.proofs.lemmas.List.Elements.{All-pop, All-push, All-same}
use Rattle.std.proofs.lemmas.List.{length_push}
use Rattle.std.proofs.lemmas.List.Sums.{sum_by_push}
use Rattle.fg_batch.specs.Outbox.{IsUnsent}
use Rattle.fg_cache.specs.Pass.{IsPassOf, Token}
use Rattle.fg_cache.specs.declared.slips.FaultShare.{FaultShare}
use Rattle.fg_crew.specs.declared.slot.Slot.{Slot}
use Rattle.fg_iter.specs.Crew.{IsSettled}
use Rattle.fg_part.specs.declared.part_map.PartMap.{PartMap}
use Rattle.fg_worker.specs.declared.hand.Hand.{Hand}
use Rattle.fg_worker.specs.Hand.{IsHand, counted_by, hits_of}
use Rattle.fg_engine.specs.Outfit.{IsOutboxOf}
use Rattle.fg_engine.proofs.PopLaws.{length-popped, sum-popped}
use Rattle.fg_engine.proofs.hands.hand_out.Goals as goal

pub loop-pass-preserved : goal.loop-pass-preserved
loop-pass-preserved g c =
    let T = g.row.T.Denot in
    let so_far = c.loop-pass.invariant in
    let pass = c.in-Some.pass in
    let outbox = c.in-Some-pop.outbox in
    let slots = c.loop-pass.slots.items in
    let slot = c.new-in-Some.result in
    let popped = c.in-Some.ensures.items in
    let beside = c.in-Some-pop.ensures.items in
    let pushed = c.push_reserved.ensures.items in
    let kept : slot.kept ≡ c.new.result = c.new-in-Some.ensures in
    let passes_long = length-popped c.loop-pass.passes.items c.pop.new.self.items pass popped in
    let outboxes_long = length-popped c.loop-pass.outboxes.items c.pop-in-Some.new.self.items outbox beside in
    let more = ap length pushed ∙ length_push slots slot in
    let is_settled : IsSettled (counted_by g.T.Tally.runs g.T.Tally.entries slot.kept) = record {
      runs = ap (λ (hand : Hand T). g.T.Tally.runs hand.tally) kept ∙ ap g.T.Tally.runs c.new.ensures.tally ∙ c.split.ensures.no_runs;
      entries = ap (λ (hand : Hand T). g.T.Tally.entries hand.tally) kept ∙ ap g.T.Tally.entries c.new.ensures.tally ∙ c.split.ensures.no_entries;
    } in
    let hits : hits_of slot.kept.pass ≡ pass.hits = ap (λ (hand : Hand T). hits_of hand.pass) kept ∙ ap hits_of c.new.ensures.pass in
    let all_hits = sum-popped (λ (token : Token). token.hits) c.loop-pass.passes.items c.pop.new.self.items pass popped in
    let more_hits = ap (sum_by (λ (one : Slot (Hand T) FaultShare). hits_of one.kept.pass)) pushed
    ∙ sum_by_push (λ (one : Slot (Hand T) FaultShare). hits_of one.kept.pass) slots slot in
    record {
      beside = omega (arith, so_far.beside, passes_long, outboxes_long);
      unsent = (All-pop IsUnsent _ _ (Some outbox) beside so_far.unsent).0;
      count = omega (arith, so_far.count, passes_long, more);
      long = omega (arith, so_far.long, passes_long, c.push_reserved.ensures.len);
      room = omega (arith, so_far.room, c.push_reserved.ensures.capacity);
      hands = λ site map all_passes all_outboxes.
          let so = so_far.hands site map all_passes all_outboxes in
          let own = All-pop (IsPassOf site) _ _ (Some pass) popped so.0 in
          let over = All-pop (IsOutboxOf map) _ _ (Some outbox) beside so.1 in
          let P = λ (one : Slot (Hand T) FaultShare). IsHand site map one.kept in
          let hand : IsHand site map c.new.result = subst (λ (m : PartMap). IsHand site m c.new.result) over.1.same_map (c.new.ensures.is_hand site own.1) in
          (own.0, over.0, All-same P _ _ pushed (All-push P slots slot so.2 (subst (λ (hand : Hand T). IsHand site map hand) (sym kept) hand)));
      settled =
          let P = λ (one : Slot (Hand T) FaultShare). IsSettled (counted_by g.T.Tally.runs g.T.Tally.entries one.kept) in
          All-same P _ _ pushed (All-push P slots slot so_far.settled is_settled);
      hits = omega (arith, so_far.hits, all_hits, more_hits, hits);
      runs = c.split.ensures.runs ∙ so_far.runs;
      entries = c.split.ensures.entries ∙ so_far.entries;
    }

pub returns-clause-hands : goal.returns-clause-hands
returns-clause-hands g c = λ site map passes outboxes. (c.loop-pass.invariant.hands site map passes outboxes).2

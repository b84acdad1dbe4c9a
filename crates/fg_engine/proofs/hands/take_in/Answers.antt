use Rattle.std.proofs.Common.{◌≡◌, ◌∙◌, Option, Some, length, ap, subst, sym, arith}
use Rattle.std.specs.List.{sum_by}
use Rattle.std.proofs.lemmas.List.Elements.{All-pop, All-push, All-same}
use Rattle.std.proofs.lemmas.List.{length_push}
use Rattle.std.proofs.lemmas.List.Sums.{sum_by_push}
use Rattle.fg_cache.specs.Pass.{IsPassOf, Token}
use Rattle.fg_cache.specs.declared.slips.FaultShare.{FaultShare}
use Rattle.fg_crew.specs.declared.slot.Slot.{Slot}
use Rattle.fg_iter.specs.Crew.{IsSettled}
use Rattle.fg_worker.specs.declared.hand.Hand.{Hand}
use Rattle.fg_worker.specs.Hand.{IsPassHeld, counted_by, hits_of}
use Rattle.fg_engine.proofs.PopLaws.{length-popped, sum-popped}
use Rattle.fg_engine.proofs.hands.take_in.Goals as goal

pub into_parts-pass-requires : goal.into_parts-pass-requires
into_parts-pass-requires g c =
    let T = g.row.T.Denot in
    let held = c.loop-slot.invariant.held in
    let P = λ (one : Slot (Hand T) FaultShare). IsPassHeld held.0 one.kept.pass in
    record {
      pass = (
        held.0,
        subst (λ (hand : Hand T). IsPassHeld held.0 hand.pass) (sym c.into_kept.ensures)
            (All-pop P _ _ (Some c.in-Some.slot) c.in-Some.ensures.items held.1).1,
      );
    }

pub join_none-requires-clause-no_runs : goal.join_none-requires-clause-no_runs
join_none-requires-clause-no_runs g c =
    let T = g.row.T.Denot in
    let P = λ (one : Slot (Hand T) FaultShare). IsSettled (counted_by g.T.Tally.runs g.T.Tally.entries one.kept) in
    ap g.T.Tally.runs c.into_parts-pass.ensures.tally ∙ ap (λ (hand : Hand T). g.T.Tally.runs hand.tally) c.into_kept.ensures
    ∙ (All-pop P _ _ (Some c.in-Some.slot) c.in-Some.ensures.items c.loop-slot.invariant.settled).1.runs

pub join_none-requires-clause-no_entries : goal.join_none-requires-clause-no_entries
join_none-requires-clause-no_entries g c =
    let T = g.row.T.Denot in
    let P = λ (one : Slot (Hand T) FaultShare). IsSettled (counted_by g.T.Tally.runs g.T.Tally.entries one.kept) in
    ap g.T.Tally.entries c.into_parts-pass.ensures.tally ∙ ap (λ (hand : Hand T). g.T.Tally.entries hand.tally) c.into_kept.ensures
    ∙ (All-pop P _ _ (Some c.in-Some.slot) c.in-Some.ensures.items c.loop-slot.invariant.settled).1.entries

pub loop-slot-preserved : goal.loop-slot-preserved
loop-slot-preserved g c =
    let T = g.row.T.Denot in
    let so_far = c.loop-slot.invariant in
    let slot = c.in-Some.slot in
    let pass = c.into_parts-pass.result.0 in
    let passes = c.loop-slot.passes.items in
    let popped = c.in-Some.ensures.items in
    let pushed = c.push_reserved.ensures.items in
    let has : slot.kept.pass ≡ Some pass = ap (λ (hand : Hand T). hand.pass) (sym c.into_kept.ensures) ∙ c.into_parts-pass.ensures.pass in
    let slots_long = length-popped c.loop-slot.slots.items c.pop.new.self.items slot popped in
    let more = ap length pushed ∙ length_push passes pass in
    let hits = ap hits_of has in
    let slots_hits = sum-popped (λ (one : Slot (Hand T) FaultShare). hits_of one.kept.pass) c.loop-slot.slots.items c.pop.new.self.items slot popped in
    let passes_hits = ap (sum_by (λ (token : Token). token.hits)) pushed ∙ sum_by_push (λ (token : Token). token.hits) passes pass in
    let S = λ (one : Slot (Hand T) FaultShare). IsSettled (counted_by g.T.Tally.runs g.T.Tally.entries one.kept) in
    let Q = λ (one : Slot (Hand T) FaultShare). IsPassHeld so_far.held.0 one.kept.pass in
    record {
      held = (so_far.held.0, (All-pop Q _ _ (Some slot) popped so_far.held.1).0);
      passes = λ site all.
          let so = so_far.passes site all in
          let P = λ (one : Slot (Hand T) FaultShare). IsPassHeld site one.kept.pass in
          let parts = All-pop P _ _ (Some slot) popped so.0 in
          (parts.0, All-same (IsPassOf site) _ _ pushed (All-push (IsPassOf site) passes pass so.1 (subst (λ (token : Option Token). IsPassHeld site token) has parts.1)));
      settled = (All-pop S _ _ (Some slot) popped so_far.settled).0;
      count = omega (arith, so_far.count, slots_long, more);
      long = omega (arith, so_far.long, slots_long, c.push_reserved.ensures.len);
      room = omega (arith, so_far.room, c.push_reserved.ensures.capacity);
      hits = omega (arith, so_far.hits, slots_hits, passes_hits, hits);
      runs = c.join_none.ensures.runs ∙ so_far.runs;
      entries = c.join_none.ensures.entries ∙ so_far.entries;
    }

pub returns-clause-passes : goal.returns-clause-passes
returns-clause-passes g c = λ site all. (c.loop-slot.invariant.passes site all).1

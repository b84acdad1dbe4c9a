use Rattle.std.proofs.Common.{◌≡◌, ◌+◌, ◌≤◌, All, length, vec_len, vec_capacity}
use Rattle.fg_batch.specs.Outbox.{IsUnsent}
use Rattle.fg_cache.specs.Closing.{all_hits}
use Rattle.fg_cache.specs.Pass.{IsPassOf}
use Rattle.fg_cache.specs.Site.{Site}
use Rattle.fg_engine.specs.Hands.{AreHands, AreSettled}
use Rattle.fg_engine.specs.Outfit.{IsOutboxOf}
use Rattle.fg_iter.specs.Crew.{hits_in}
use Rattle.fg_part.specs.declared.part_map.PartMap.{PartMap}
use Rattle.fg_worker.specs.Hand.{counted_by}
use Rattle.fg_engine.proofs.hands.hand_out.Given as goal

abbrev pub invariant-loop-pass : goal.invariant-loop-pass
invariant-loop-pass g l = record {
  beside : length l.outboxes.items ≡ length l.passes.items;
  unsent : All IsUnsent l.outboxes.items;
  count : length l.slots.items + length l.passes.items ≡ length l.fn.passes.items;
  long : vec_len l.slots + length l.passes.items ≡ length l.fn.passes.items;
  room : length l.fn.passes.items ≤ vec_capacity l.slots;
  hands : (site : Site) (map : PartMap) → All (IsPassOf site) l.fn.passes.items → All (IsOutboxOf map) l.fn.outboxes.items
      → All (IsPassOf site) l.passes.items × All (IsOutboxOf map) l.outboxes.items × AreHands site map l.slots.items;
  settled : AreSettled g.T.Tally.runs g.T.Tally.entries l.slots.items;
  hits : hits_in (counted_by g.T.Tally.runs g.T.Tally.entries) l.slots.items + all_hits l.passes.items ≡ all_hits l.fn.passes.items;
  runs : g.T.Tally.runs l.tally ≡ g.T.Tally.runs l.initial.tally;
  entries : g.T.Tally.entries l.tally ≡ g.T.Tally.entries l.initial.tally;
}

abbrev pub decreases-loop-pass : goal.decreases-loop-pass
decreases-loop-pass g l = length l.passes.items

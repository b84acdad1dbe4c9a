use Rattle.std.proofs.Common.{◌≡◌, ◌+◌, ◌≤◌, All, length, vec_len, vec_capacity}
use Rattle.fg_cache.specs.Closing.{all_hits}
use Rattle.fg_cache.specs.Pass.{IsPassOf}
use Rattle.fg_cache.specs.Site.{Site}
use Rattle.fg_engine.specs.Hands.{AreSettled, HavePasses}
use Rattle.fg_iter.specs.Crew.{hits_in}
use Rattle.fg_worker.specs.Hand.{counted_by}
use Rattle.fg_engine.proofs.hands.take_in.Given as goal

abbrev pub invariant-loop-slot : goal.invariant-loop-slot
invariant-loop-slot g l = record {
  held : (site : Site) × HavePasses site l.slots.items;
  passes : (site : Site) → HavePasses site l.fn.slots.items → HavePasses site l.slots.items × All (IsPassOf site) l.passes.items;
  settled : AreSettled g.T.Tally.runs g.T.Tally.entries l.slots.items;
  count : length l.passes.items + length l.slots.items ≡ length l.fn.slots.items;
  long : vec_len l.passes + length l.slots.items ≡ length l.fn.slots.items;
  room : length l.fn.slots.items ≤ vec_capacity l.passes;
  hits : all_hits l.passes.items + hits_in (counted_by g.T.Tally.runs g.T.Tally.entries) l.slots.items
      ≡ hits_in (counted_by g.T.Tally.runs g.T.Tally.entries) l.fn.slots.items;
  runs : g.T.Tally.runs l.tally ≡ g.T.Tally.runs l.initial.tally;
  entries : g.T.Tally.entries l.tally ≡ g.T.Tally.entries l.initial.tally;
}

abbrev pub decreases-loop-slot : goal.decreases-loop-slot
decreases-loop-slot g l = length l.slots.items

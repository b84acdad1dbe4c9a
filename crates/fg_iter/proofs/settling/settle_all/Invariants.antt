use Rattle.std.proofs.Common.{◌≡◌, ℕ, ◌+◌, ◌<◌, drop, get_or}
use Rattle.std.specs.Prelude.{All}
use Rattle.std.specs.List.{sum_by}
use Rattle.fg_crew.specs.declared.slot.Slot.{Slot}
use Rattle.fg_iter.specs.Crew.{IsSettled, hits_in}
use Rattle.fg_part.specs.declared.part_map.PartMap.{PartMap as Map}
use Rattle.fg_iter.proofs.settling.settle_all.Given as goal

abbrev pub invariant-loop-slot : goal.invariant-loop-slot
invariant-loop-slot g l =
    let spent = g.B.RunsOn.spent in
    record {
      runs : g.T.Tally.runs l.tally + sum_by (λ (slot : Slot _ _). (spent slot.kept).runs) (drop l.slot-index l.slots)
          ≡ g.T.Tally.runs l.fn.tally + sum_by (λ (slot : Slot _ _). (spent slot.kept).runs) l.fn.slots;
      entries : g.T.Tally.entries l.tally + sum_by (λ (slot : Slot _ _). (spent slot.kept).entries) (drop l.slot-index l.slots)
          ≡ g.T.Tally.entries l.fn.tally + sum_by (λ (slot : Slot _ _). (spent slot.kept).entries) l.fn.slots;
      settled : (k : ℕ) (d : _) → k < l.slot-index → IsSettled (spent (get_or l.slots k d).kept);
      hits : hits_in spent l.slots ≡ hits_in spent l.fn.slots;
      lent : (map : Map) → All (λ (slot : Slot _ _). g.B.RunsOn.lends l.runner map slot.kept) l.fn.slots
          → All (λ (slot : Slot _ _). g.B.RunsOn.lends l.runner map slot.kept) l.slots;
    }

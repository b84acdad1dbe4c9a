use Rattle.std.proofs.Common.{ℕ, ◌+◌, ◌<◌, get_or, length, ap, arith}
use Rattle.std.specs.List.{sum_by}
use Rattle.fg_crew.specs.declared.slot.Slot.{Slot}
use Rattle.fg_iter.proofs.SettleLaws.{all-kept, counted-more, counted-room, settled-more, sum-kept}
use Rattle.fg_iter.specs.Crew.{IsSettled}
use Rattle.fg_task.specs.Spending.{Counted}
use Rattle.fg_iter.proofs.settling.settle_all.Goals as goal

pub settle-requires-clause-room_of_runs : goal.settle-requires-clause-room_of_runs
settle-requires-clause-room_of_runs g c =
    let slots = c.loop-slot.slots in
    let below : c.loop-slot.slot-index < length slots = omega (arith, c.loop-slot.auto.slots) in
    let counts : Slot _ _ → ℕ = λ slot. (g.B.RunsOn.spent slot.kept).runs in
    counted-room slots c.loop-slot.slot-index c.slot-item.result c.slot-item.result below counts
    (g.T.Tally.runs c.loop-slot.tally) (g.T.Tally.runs c.args.tally.now + sum_by counts c.args.slots.now) c.loop-slot.invariant.runs c.requires.room_of_runs

pub settle-requires-clause-room_of_entries : goal.settle-requires-clause-room_of_entries
settle-requires-clause-room_of_entries g c =
    let slots = c.loop-slot.slots in
    let below : c.loop-slot.slot-index < length slots = omega (arith, c.loop-slot.auto.slots) in
    let counts : Slot _ _ → ℕ = λ slot. (g.B.RunsOn.spent slot.kept).entries in
    counted-room slots c.loop-slot.slot-index c.slot-item.result c.slot-item.result below counts
    (g.T.Tally.entries c.loop-slot.tally) (g.T.Tally.entries c.args.tally.now + sum_by counts c.args.slots.now) c.loop-slot.invariant.entries c.requires.room_of_entries

pub loop-slot-preserved : goal.loop-slot-preserved
loop-slot-preserved g c =
    let slots = c.loop-slot.slots in
    let i = c.loop-slot.slot-index in
    let below : i < length slots = omega (arith, c.loop-slot.auto.slots) in
    let spent = g.B.RunsOn.spent in
    let lends = g.B.RunsOn.lends c.args.runner.now in
    let runs : Slot _ _ → ℕ = λ slot. (spent slot.kept).runs in
    let entries : Slot _ _ → ℕ = λ slot. (spent slot.kept).entries in
    let hits : Slot _ _ → ℕ = λ slot. (spent slot.kept).hits in
    let inv = c.loop-slot.invariant in
    let first = c.args.slots.now in
    let d = c.slot-item.result in
    let next = record (get_or slots i d) { kept = c.settle.new.kept } in
    let done = c.settle.ensures in
    record {
      runs = counted-more slots i d next below runs (g.T.Tally.runs c.loop-slot.tally) (g.T.Tally.runs c.settle.new.tally) (g.T.Tally.runs c.args.tally.now + sum_by runs first)
          inv.runs done.runs;
      entries = counted-more slots i d next below entries (g.T.Tally.entries c.loop-slot.tally) (g.T.Tally.entries c.settle.new.tally) (g.T.Tally.entries c.args.tally.now + sum_by entries first)
          inv.entries done.entries;
      settled = settled-more slots i d next below (λ (slot : Slot _ _). IsSettled (spent slot.kept))
          (record { runs = ap (λ (one : Counted). one.runs) done.left; entries = ap (λ (one : Counted). one.entries) done.left }) inv.settled;
      hits = sum-kept slots i d next below hits (sum_by hits first) inv.hits (ap (λ (one : Counted). one.hits) done.left);
      lent = λ map all. all-kept slots i d next below (λ (slot : Slot _ _). lends map slot.kept) (inv.lent map all) (done.lent map);
    }

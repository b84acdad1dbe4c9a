use Rattle.std.proofs.Common.{ℕ, ◌-◌, List, subst, arith}
use Rattle.std.specs.List.{Contains}
use Rattle.fg_crew.specs.Claimed.{plan_of}
use Rattle.fg_crew.proofs.CaseLaws.{on_ok}
use Rattle.fg_crew.proofs.SpendLaws.{draws-then, room-later}
use Rattle.fg_crew.proofs.SpendingLaws.{spent-then}
use Rattle.fg_crew.proofs.TellingLaws.{not_yet, told-more}
use Rattle.fg_crew.proofs.working.spend_parts.Goals as goal

pub spend-next-requires-clause-untold : goal.spend-next-requires-clause-untold
spend-next-requires-clause-untold g c κs within found =
    let inv = c.loop-part.invariant in
    let part = c.loop-part.part in
    not_yet c.args.seat.told c.args.first (part - c.args.first) part (omega (arith, inv.above)) (c.requires.untold part inv.above (omega arith))
    (subst (λ (l : List ℕ). Contains l part) inv.told found)

pub spend-next-requires-clause-room : goal.spend-next-requires-clause-room
spend-next-requires-clause-room g c κs within =
    let runs = g.B.RunsBlock in
    room-later (plan_of runs.blocks c.args.wave.now) (runs.spent c.args.kept.now) (runs.spent c.loop-part.kept) c.args.seat.drawn c.loop-part.seat.drawn c.loop-part.invariant.few
    c.requires.room

pub loop-part-preserved : goal.loop-part-preserved
loop-part-preserved g c =
    let runs = g.B.RunsBlock in
    let inv = c.loop-part.invariant in
    let ended = c.spend-next.result.1 in
    let nothing = c.in-Ok.field-0 in
    let spent = c.spend-next.ensures in
    let told = on_ok ended nothing c.in-Ok.is spent.told in
    let exact = on_ok ended nothing c.in-Ok.is spent.exact in
    record {
      above = omega (arith, inv.above);
      own = spent.own;
      told = told-more c.args.seat.told c.loop-part.seat.told c.spend-next.result.0.told c.args.first c.loop-part.part inv.above inv.told told;
      results = on_ok ended nothing c.in-Ok.is spent.results;
      few = draws-then (plan_of runs.blocks c.args.wave.now) (runs.spent c.args.kept.now) (runs.spent c.loop-part.kept) c.args.seat.drawn c.loop-part.seat.drawn inv.few
          (runs.spent c.spend-next.new.kept) c.spend-next.result.0.drawn spent.few;
      lent = spent.lent;
      exact = spent-then (runs.blocks c.args.wave.now.runner.now) (runs.spent c.args.kept.now) (runs.spent c.loop-part.kept) (runs.spent c.spend-next.new.kept)
          c.args.results.now.items c.loop-part.results.items c.spend-next.new.results.items inv.exact exact;
    }

pub returns-in-Err-clause-few : goal.returns-in-Err-clause-few
returns-in-Err-clause-few g c =
    let runs = g.B.RunsBlock in
    draws-then (plan_of runs.blocks c.args.wave.now) (runs.spent c.args.kept.now) (runs.spent c.loop-part.kept) c.args.seat.drawn c.loop-part.seat.drawn c.loop-part.invariant.few
    (runs.spent c.spend-next.new.kept) c.spend-next.result.0.drawn c.spend-next.ensures.few

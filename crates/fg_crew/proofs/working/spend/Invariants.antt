use Rattle.std.proofs.Common.{◌≡◌}
use Rattle.fg_crew.specs.Claimed.{AreResults, SpentOnDraws, plan_of}
use Rattle.fg_task.specs.Spending.{SpentOnMore}
use Rattle.fg_crew.proofs.working.spend.Given as goal

abbrev pub invariant-loop : goal.invariant-loop
invariant-loop g l =
    let runs = g.B.RunsBlock in
    record {
      goes_on : (goal.iterator-loop g).can_next l.iterator' × (goal.iterator-loop g).is_finite l.iterator';
      own : l.seat.claims ≡ l.wave.claims;
      told : l.seat.told ≡ l.fn.seat.told;
      results : AreResults (plan_of runs.blocks l.wave) l.seat.drawn l.results.items;
      few : SpentOnDraws (plan_of runs.blocks l.wave) (runs.spent l.fn.kept) (runs.spent l.kept) l.fn.seat.drawn l.seat.drawn;
      lent : runs.lends l.wave.runner.now l.kept;
      exact : SpentOnMore (runs.blocks l.wave.runner.now) (runs.spent l.fn.kept) (runs.spent l.kept) l.fn.results.items l.results.items;
    }

-- What was gone over so far.
use Rattle.std.proofs.Common.{◌≡◌, []}
use Rattle.fg_worker.specs.Hand.{IsPassHeld, hits_of}
use Rattle.fg_worker.specs.Visiting.{moment_of}
use Rattle.fg_worker.proofs.CoverLaws.{GoneOver}
use Rattle.fg_worker.proofs.rounds.visit_all.Given as goal

abbrev pub invariant-loop : goal.invariant-loop
invariant-loop g l = record {
  goes_on : (goal.iterator-loop g).can_next l.iterator' × (goal.iterator-loop g).is_finite l.iterator';
  pass : IsPassHeld l.cache.site l.hand.pass;
  function : l.run.book.function ≡ l.fn.run.book.function;
  runs : g.T.Tally.runs l.hand.tally ≡ g.T.Tally.runs l.fn.hand.tally;
  none : l.kept.items ≡ [];
  gone : GoneOver l.cache.site (g.F.SegmentRun.work l.fn.run.book.function) (moment_of g.T.Tally.entries l.fn.run l.fn.hand) (moment_of g.T.Tally.entries l.run l.hand)
      l.initial.pages.items l.pages.items (hits_of l.fn.hand.pass) (hits_of l.hand.pass);
}

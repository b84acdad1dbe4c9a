use Rattle.std.proofs.Common.{◌≡◌}
use Rattle.fg_worker.proofs.AddingLaws.{AddsRest}
use Rattle.fg_worker.proofs.adding.add_list.Given as goal

abbrev pub invariant-loop-segment : goal.invariant-loop-segment
invariant-loop-segment g l = record {
  can : (goal.iterator-loop-segment g).can_next l.segment-iterator;
  finite : (goal.iterator-loop-segment g).is_finite l.segment-iterator;
  weighted : l.segment-iterator.weighted ≡ l.fn.index.weighted;
  function : l.book.function ≡ l.fn.book.function;
  adds : AddsRest l.fn.layout l.fn.index l.fn.dir l.fn.v l.fn.carry l.fn.book l.segment-iterator l.book;
}

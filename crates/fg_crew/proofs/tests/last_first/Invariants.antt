use Rattle.std.proofs.Common.{◌≡◌, ◌<◌, length}
use Rattle.std.specs.Prelude.{All}
use Rattle.fg_crew.proofs.tests.last_first.Given as goal

abbrev pub invariant-loop-place : goal.invariant-loop-place
invariant-loop-place l = record {
  count : length l.list.items ≡ l.place;
  blocks : All (λ block. block < 100) l.list.items;
}

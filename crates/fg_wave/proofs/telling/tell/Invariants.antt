use Rattle.std.proofs.Common.{◌≡◌, ◌+◌, drop, take}
use Rattle.fg_task.specs.Spending.{active_in, sent_in}
use Rattle.fg_wave.specs.Telling.{IsLeastFound}
use Rattle.fg_wave.proofs.telling.tell.Given as goal

abbrev pub invariant-loop-one : goal.invariant-loop-one
invariant-loop-one l = record {
  active : l.active + active_in (drop l.one-index l.results) ≡ active_in l.results;
  sent : l.sent + sent_in (drop l.one-index l.results) ≡ sent_in l.results;
  found : IsLeastFound (take l.one-index l.results) l.first;
}

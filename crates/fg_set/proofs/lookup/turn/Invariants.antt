use Rattle.std.proofs.Common.{◌≡◌, ◌*◌, ◌-◌, ◌<◌, length}
use Rattle.fg_set.specs.Clock.{turn}
use Rattle.fg_set.proofs.lookup.turn.Given as goal

abbrev pub invariant-loop-look : goal.invariant-loop-look
invariant-loop-look l = record {
  within : l.at < length l.entries;
  same : turn (2 * length l.initial.entries - l._look) l.page l.entries l.at ≡ turn (2 * length l.initial.entries) l.page l.initial.entries l.initial.at;
}

use Rattle.std.proofs.Common.{◌≡◌, ℕ, ◌<◌, length, get_or}
use Rattle.fg_part.specs.PartMap.{blocks_in}
use Rattle.fg_crew.proofs.dealing.deal.Given as goal

abbrev pub invariant-loop-part : goal.invariant-loop-part
invariant-loop-part l = record {
  count : length l.counts.items ≡ l.part;
  each : (part : ℕ) → part < l.part → get_or l.counts.items part 0 ≡ blocks_in l.places part;
}

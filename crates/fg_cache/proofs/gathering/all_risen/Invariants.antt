use Rattle.std.proofs.Common.{◌≡◌, ℕ, ◌<◌, true, get_or}
use Rattle.fg_cache.specs.Slips.{FaultOf}
use Rattle.fg_cache.proofs.gathering.all_risen.Given as goal

abbrev pub invariant-loop-share : goal.invariant-loop-share
invariant-loop-share g l = record {
  shelf : l.shelf ≡ l.initial.shelf;
  shares : l.shares ≡ l.initial.shares;
  risen : (k : ℕ) (d : FaultOf) → k < l.share-index → (get_or l.initial.shares k d).drive ≡ l.initial.shelf.number → l.initial.shelf.rose ≡ true;
}

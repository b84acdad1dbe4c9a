-- The reader took some bytes, and there is room for the others that a text may have.
use Rattle.std.proofs.Common.{◌≡◌, ◌+◌, ℕ, List, length}
use Rattle.fg_base.specs.declared.limits.TheConstants.{MAX_TEXT_BYTES}
use Rattle.fg_text.specs.Pieces.{Took}
use Rattle.fg_text.proofs.pieces.read_pieces.Given as goal

abbrev pub invariant-loop-room : goal.invariant-loop-room
invariant-loop-room g l =
    (taken : List ℕ)
    × Took l.initial.reader l.reader (g.S.Source.left l.initial.input) (g.S.Source.left l.input) taken
    × (length taken + l.room ≡ MAX_TEXT_BYTES)
    × (g.S.Source.faults l.input ≡ g.S.Source.faults l.initial.input)

abbrev pub decreases-loop-room : goal.decreases-loop-room
decreases-loop-room g l = l.room

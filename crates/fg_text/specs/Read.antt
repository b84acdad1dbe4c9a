-- How reading the edges of a source ends.
use Rattle.std.specs.Prelude.{◌≡◌, ℕ, ◌+◌, ◌<◌, ◌≤◌, ◌⊎◌, ◌++◌, Bool, Err, IfSome, List, Option, length}
use Rattle.fg_base.specs.Faults.{Rose}
use Rattle.fg_base.specs.Told.{led_by}
use Rattle.fg_base.specs.declared.limits.TheConstants.{MAX_TEXT_BYTES}
use Rattle.fg_base.specs.declared.refusal.Refusal.{Refusal}
use Rattle.fg_base.specs.declared.refusal.Refusal.TheVariants.{Memory, InputFault, BadLine, IdTooLarge, TooManyEdges, TextTooLong}
use Rattle.fg_text.specs.Pieces.{IsAtEnd, TookFront}
use Rattle.fg_text.specs.Reader.{line_ends}
use Rattle.fg_text.specs.Text.{read_text}
use Rattle.fg_text.specs.declared.pieces.TheConstants.{PIECE_BYTES}

-- the bytes left, where they are told, are a text that is refused so
abbrev pub SaysRefusal : Bool → Option (List ℕ) → Refusal → Type 0
SaysRefusal undirected left refusal = IfSome left (λ bytes. read_text undirected bytes ≡ Err refusal)

-- what was taken ends with a piece of at most `PIECE_BYTES` in which the line of this number ended; where no line end ended
-- it the text did
pub record StopsBehind (line : ℕ) (old new : Option (List ℕ)) : Type 0 where
  pub before : List ℕ
  pub piece : List ℕ
  pub moved : old ≡ led_by (before ++ piece) new
  pub short : length piece ≤ PIECE_BYTES
  pub unended : line_ends before < line
  pub ended : (line ≤ line_ends (before ++ piece)) ⊎ IsAtEnd new

-- a line of the text is refused, and reading stopped behind it
pub record RefusesText (undirected : Bool) (old new : Option (List ℕ)) (line : ℕ) (refusal : Refusal) : Type 0 where
  pub says : SaysRefusal undirected old refusal
  pub stops : StopsBehind line old new

-- no more than a piece was taken beyond the bytes that a text may have
abbrev pub StopsSoon : Option (List ℕ) → Option (List ℕ) → Type 0
StopsSoon old new = (taken : List ℕ) × (length taken ≤ MAX_TEXT_BYTES + PIECE_BYTES) × (old ≡ led_by taken new)

-- why a text wasn't read: want of memory, a fault of the source, whose count rose, or what the text says
abbrev pub ReadRefused : Bool → Option (List ℕ) → Option (List ℕ) → ℕ → ℕ → Refusal → Type 0
ReadRefused undirected old new before after Memory = after ≡ before
ReadRefused undirected old new before after InputFault = (before ≤ after) × Rose before after
ReadRefused undirected old new before after (BadLine line) = (after ≡ before) × RefusesText undirected old new line (BadLine line)
ReadRefused undirected old new before after (IdTooLarge line) = (after ≡ before) × RefusesText undirected old new line (IdTooLarge line)
ReadRefused undirected old new before after (TooManyEdges line) = (after ≡ before) × RefusesText undirected old new line (TooManyEdges line)
ReadRefused undirected old new before after TextTooLong = (after ≡ before) × SaysRefusal undirected old TextTooLong × StopsSoon old new
ReadRefused undirected old new before after refusal = ⊥

-- how much of the input was taken where a text was refused so: nothing behind the piece in which the refused line ended, or no
-- more than a piece beyond the bytes that a text may have; where the text isn't the cause, some first part of it
abbrev pub StopsFor : Option (List ℕ) → Option (List ℕ) → Refusal → Type 0
StopsFor old new (BadLine line) = StopsBehind line old new
StopsFor old new (IdTooLarge line) = StopsBehind line old new
StopsFor old new (TooManyEdges line) = StopsBehind line old new
StopsFor old new TextTooLong = StopsSoon old new
StopsFor old new refusal = TookFront old new

-- Taking a text from a source piece by piece.
use Rattle.std.specs.Prelude.{◌≡◌, ℕ, ◌+◌, ◌<◌, ◌≤◌, ◌++◌, Bool, false, IfSome, List, [], Ok, Option, length}
use Rattle.fg_base.specs.Faults.{Rose}
use Rattle.fg_base.specs.Told.{led_by}
use Rattle.fg_base.specs.declared.limits.TheConstants.{MAX_TEXT_BYTES}
use Rattle.fg_base.specs.declared.refusal.Refusal.{Refusal}
use Rattle.fg_base.specs.declared.refusal.Refusal.TheVariants.{InputFault, TextTooLong}
use Rattle.fg_model.specs.Edges.{EdgeList}
use Rattle.fg_text.specs.declared.reader.Reader.{Reader}
use Rattle.fg_text.specs.Reader.{Refuses, line_ends, reads_on}
use Rattle.fg_text.specs.declared.pieces.TheConstants.{PIECE_BYTES}

-- nothing is left, where that is told
abbrev pub IsAtEnd : Option (List ℕ) → Type 0
IsAtEnd left = IfSome left (λ bytes. bytes ≡ [])

-- some first part of what was left was taken
abbrev pub TookFront : Option (List ℕ) → Option (List ℕ) → Type 0
TookFront old new = (taken : List ℕ) × (old ≡ led_by taken new)

-- the reader took these bytes, which were moved from the source
pub record Took (before after : Reader) (old new : Option (List ℕ)) (taken : List ℕ) : Type 0 where
  pub moved : old ≡ led_by taken new
  pub number : after.number ≡ before.number + line_ends taken
  pub reads : (whole : Bool) (rest : List ℕ) → reads_on whole after rest ≡ reads_on whole before (taken ++ rest)

-- the reader took all that was left, which is no longer than a text may be
abbrev pub TookAll : Reader → Reader → Option (List ℕ) → Option (List ℕ) → Type 0
TookAll before after old new = (taken : List ℕ) × Took before after old new taken × (length taken ≤ MAX_TEXT_BYTES) × IsAtEnd new

-- a piece of so many bytes at most was taken and refused
pub record RefusedAtOnce (most : ℕ) (reader : Reader) (old new : Option (List ℕ)) (refusal : Refusal) : Type 0 where
  pub piece : List ℕ
  pub moved : old ≡ led_by piece new
  pub short : length piece ≤ most
  pub refused : Refuses reader.number (reader.number + line_ends piece) (λ whole rest. reads_on whole reader (piece ++ rest)) refusal

-- why a piece gave no more: a fault of the source, whose count rose, or the piece was refused
abbrev pub PieceRefused : ℕ → Reader → Option (List ℕ) → Option (List ℕ) → ℕ → ℕ → Refusal → Type 0
PieceRefused most reader old new before after InputFault = (before ≤ after) × Rose before after × (new ≡ old)
PieceRefused most reader old new before after refusal = (after ≡ before) × RefusedAtOnce most reader old new refusal

-- a piece of at most `PIECE_BYTES` bytes, behind others, was taken and refused
pub record RefusedPiece (reader : Reader) (old new : Option (List ℕ)) (refusal : Refusal) : Type 0 where
  pub before : List ℕ
  pub piece : List ℕ
  pub moved : old ≡ led_by (before ++ piece) new
  pub short : length piece ≤ PIECE_BYTES
  pub fits : length (before ++ piece) ≤ MAX_TEXT_BYTES
  pub refused : Refuses (reader.number + line_ends before) (reader.number + line_ends (before ++ piece)) (λ whole rest. reads_on whole reader ((before ++ piece) ++ rest)) refusal

-- a whole text's bytes were taken, whose lines are no cause to refuse it, and more bytes than that
pub record IsOverlong (reader : Reader) (old new : Option (List ℕ)) : Type 0 where
  pub taken : List ℕ
  pub more : List ℕ
  pub moved : old ≡ led_by (taken ++ more) new
  pub full : length taken ≡ MAX_TEXT_BYTES
  pub over : 0 < length more
  pub few : length more ≤ PIECE_BYTES
  pub edges : EdgeList
  pub reads : reads_on false reader taken ≡ Ok edges

-- why taking pieces ended early: a fault of the source, whose count rose, or a text that is too long, or a piece that was refused
abbrev pub PiecesRefused : Reader → Option (List ℕ) → Option (List ℕ) → ℕ → ℕ → Refusal → Type 0
PiecesRefused reader old new before after InputFault = (before ≤ after) × Rose before after × TookFront old new
PiecesRefused reader old new before after TextTooLong = (after ≡ before) × IsOverlong reader old new
PiecesRefused reader old new before after refusal = (after ≡ before) × RefusedPiece reader old new refusal

-- why what comes behind the longest text isn't its end: a fault of the source, or more bytes, of which so many were taken at most
abbrev pub EndRefused : ℕ → Option (List ℕ) → Option (List ℕ) → ℕ → ℕ → Refusal → Type 0
EndRefused most old new before after InputFault = (before ≤ after) × Rose before after × (new ≡ old)
EndRefused most old new before after TextTooLong = (after ≡ before) × ((more : List ℕ) × (0 < length more) × (length more ≤ most) × (old ≡ led_by more new))
EndRefused most old new before after refusal = ⊥

-- What reading on comes to, from where a reader stands.
use Rattle.std.specs.Prelude.{◌≡◌, ℕ, ◌+◌, ◌<◌, ◌≤◌, ◌++◌, All, Bool, false, cond, Result, Err, List, [], ◌∷◌, count_by}
use Rattle.fg_base.specs.declared.limits.TheConstants.{MAX_ENTRIES}
use Rattle.fg_base.specs.declared.refusal.Refusal.{Refusal}
use Rattle.fg_base.specs.declared.refusal.Refusal.TheVariants.{Memory, BadLine, IdTooLarge, TooManyEdges}
use Rattle.fg_model.specs.Edges.{EdgeList}
use Rattle.fg_text.specs.declared.line.Line.{Line}
use Rattle.fg_text.specs.declared.line.Line.TheVariants.{Start}
use Rattle.fg_text.specs.declared.reader.Reader.{Reader}
use Rattle.fg_text.specs.declared.verdict.Verdict.{Verdict}
use Rattle.fg_text.specs.Line.{line_after, verdict_of}
use Rattle.fg_text.specs.Text.{is_line_end, read_from}

-- how many lines end in these bytes
abbrev pub line_ends : List ℕ → ℕ
line_ends bytes = count_by is_line_end bytes

-- what the lines of these bytes are, the first of them begun so; the last one counts where the text is whole
abbrev pub verdicts_on : Bool → Line → List ℕ → List Verdict
verdicts_on whole line [] = cond whole (verdict_of line ∷ []) []
verdicts_on whole line (byte ∷ bytes) =
    cond (is_line_end byte) (verdict_of line ∷ verdicts_on whole Start bytes) (verdicts_on whole (line_after line byte) bytes)

-- what reading these bytes comes to where the reader stands, with all that was gathered before
unfoldable pub reads_on : Bool → Reader → List ℕ → Result EdgeList Refusal
reads_on whole reader bytes = read_from reader.undirected reader.number reader.gathered (verdicts_on whole reader.line bytes)

-- reading comes to this refusal of a line, which is not below `first` and below `end`, whatever follows
pub record IsRefused (first end line : ℕ) (refusal : Refusal) (reads : Bool → List ℕ → Result EdgeList Refusal) : Type 0 where
  pub from : first ≤ line
  pub before : line < end
  pub answer : (whole : Bool) (rest : List ℕ) → reads whole rest ≡ Err refusal

-- why reading ended: want of memory, or one of these lines is refused
abbrev pub Refuses : ℕ → ℕ → (Bool → List ℕ → Result EdgeList Refusal) → Refusal → Type 0
Refuses first end reads Memory = Unit {0}
Refuses first end reads (BadLine line) = IsRefused first end line (BadLine line) reads
Refuses first end reads (IdTooLarge line) = IsRefused first end line (IdTooLarge line) reads
Refuses first end reads (TooManyEdges line) = IsRefused first end line (TooManyEdges line) reads
Refuses first end reads refusal = ⊥

-- why an edge wasn't taken at this line: want of memory, or there are more pairs with it than there may be
abbrev pub HasNoRoom : ℕ → ℕ → Refusal → Type 0
HasNoRoom number count Memory = Unit {0}
HasNoRoom number count (TooManyEdges line) = (line ≡ number) × (MAX_ENTRIES < count)
HasNoRoom number count refusal = ⊥

-- bytes within a line
abbrev pub AreWithinLine : List ℕ → Type 0
AreWithinLine bytes = All (λ byte. is_line_end byte ≡ false) bytes

-- reading on from where one reader stands, behind these bytes, comes to the same as from where another stands, behind those
abbrev pub ReadsSame : Reader → List ℕ → Reader → List ℕ → Type 0
ReadsSame one bytes other others = (whole : Bool) (rest : List ℕ) → reads_on whole one (bytes ++ rest) ≡ reads_on whole other (others ++ rest)

-- why reading these bytes ended: want of memory, or a line that ends in them is refused
abbrev pub RefusesWithin : Reader → List ℕ → Refusal → Type 0
RefusesWithin reader bytes = Refuses reader.number (reader.number + line_ends bytes) (λ whole rest. reads_on whole reader (bytes ++ rest))

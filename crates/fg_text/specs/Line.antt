-- A line as far as it was read, and the next byte.
use Rattle.std.specs.Prelude.{ℕ, ◌+◌, ◌-◌, ◌*◌, ◌==◌, ◌<◌, ◌^◌, nat_lt, Some, List, [], ◌∷◌, map, if◌then◌else◌}
use Rattle.std.specs.Char.{is_ascii_digit}
use Rattle.fg_base.specs.declared.limits.TheConstants.{MAX_VERTICES}
use Rattle.fg_text.specs.declared.line.Fields.{Fields}
use Rattle.fg_text.specs.declared.line.Fields.TheVariants.{Empty, One, Two, Three}
use Rattle.fg_text.specs.declared.line.Place.{Place}
use Rattle.fg_text.specs.declared.line.Place.TheVariants.{Source, Target, Weight}
use Rattle.fg_text.specs.declared.line.Line.{Line}
use Rattle.fg_text.specs.declared.line.Line.TheVariants.{Start, Comment, Spoiled, Gap, Field, Returned}
use Rattle.fg_text.specs.declared.verdict.Verdict.{Verdict}
use Rattle.fg_text.specs.declared.verdict.Verdict.TheVariants.{Skipped, Broken, Gives}
use Rattle.fg_text.specs.Text.{is_blank, judged}

-- a field's number with one more digit; it stands still from 2^32 on
abbrev pub with_digit : ℕ → ℕ → ℕ
with_digit number byte = if nat_lt number (2 ^ 32) then number * 10 + (byte - 48) else number

-- the numbers of whole fields
abbrev pub numbers_in : Fields → List ℕ
numbers_in Empty = []
numbers_in (One source) = source ∷ []
numbers_in (Two source target) = source ∷ target ∷ []
numbers_in (Three source target weight) = source ∷ target ∷ weight ∷ []

-- what a line of just these fields is
abbrev pub judge_fields : Fields → Verdict
judge_fields fields = judged (map (λ number. Some number) (numbers_in fields))

-- the fields once the one at this place is whole
abbrev pub closed : Place → ℕ → Fields
closed Source number = One number
closed (Target source) number = Two source number
closed (Weight source target) number = Three source target number

-- a digit behind a gap begins the next field, if there can be one
abbrev pub begun : Fields → ℕ → Line
begun Empty number = Field Source number
begun (One source) number = Field (Target source) number
begun (Two source target) number = Field (Weight source target) number
begun (Three source target weight) number = Spoiled

-- a byte behind a gap
abbrev pub after_gap : Fields → ℕ → Line
after_gap fields byte =
    if is_ascii_digit byte then begun fields (with_digit 0 byte)
    else if is_blank byte then Gap fields
    else if byte == 13 then Returned fields
    else Spoiled

-- a byte behind the digits of a field
abbrev pub after_digits : Place → ℕ → ℕ → Line
after_digits place number byte =
    if is_ascii_digit byte then Field place (with_digit number byte)
    else if is_blank byte then Gap (closed place number)
    else if byte == 13 then Returned (closed place number)
    else Spoiled

-- the line with one byte more, which isn't its end
abbrev pub line_after : Line → ℕ → Line
line_after Start byte = if byte == 35 then Comment else after_gap Empty byte
line_after Comment byte = Comment
line_after Spoiled byte = Spoiled
line_after (Gap fields) byte = after_gap fields byte
line_after (Field place number) byte = after_digits place number byte
line_after (Returned fields) byte = Spoiled

-- what the line is if it ends here
abbrev pub verdict_of : Line → Verdict
verdict_of Start = Skipped
verdict_of Comment = Skipped
verdict_of Spoiled = Broken
verdict_of (Gap fields) = judge_fields fields
verdict_of (Field place number) = judge_fields (closed place number)
verdict_of (Returned fields) = judge_fields fields

-- the vertices of an edge are below the limit
abbrev pub HasVertices : Verdict → Type 0
HasVertices (Gives edge) = (edge.source < MAX_VERTICES) × (edge.target < MAX_VERTICES)
HasVertices verdict = Unit {0}

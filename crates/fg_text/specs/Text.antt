-- A text of edges: its lines, and what it says.
use Rattle.std.specs.Prelude.{ℕ, ◌+◌, ◌==◌, ◌^◌, ◌&&◌, ◌||◌, nat_lt, nat_le, Bool, true, false, Option, None, Some, Result, Ok, Err, List, [], ◌∷◌, count_by, filter, length, map, take, slice_index, if◌then◌else◌}
use Rattle.std.specs.List.{filter_map, slice_split}
use Rattle.std.specs.Option.{option_or}
use Rattle.std.specs.Str.{all_ascii_digits}
use Rattle.std.specs.Str.Lines.{strip_carriage_return}
use Rattle.std.specs.Str.Parse.{digits_value}
use Rattle.fg_base.specs.declared.limits.TheConstants.{MAX_ENTRIES, MAX_TEXT_BYTES, MAX_VERTICES}
use Rattle.fg_base.specs.declared.refusal.Refusal.{Refusal}
use Rattle.fg_base.specs.declared.refusal.Refusal.TheVariants.{BadLine, IdTooLarge, TooManyEdges, TextTooLong}
use Rattle.fg_model.specs.Edges.{EdgeList}
use Rattle.fg_text.specs.declared.verdict.Edge.{Edge}
use Rattle.fg_text.specs.declared.verdict.Verdict.{Verdict}
use Rattle.fg_text.specs.declared.verdict.Verdict.TheVariants.{Skipped, Broken, TooLarge, Gives}
use Rattle.fg_text.specs.Gathered.{pairs_of, with_edges}
use Rattle.fg_text.specs.Merged.{merged}

-- LF, which ends a line
abbrev pub is_line_end : ℕ → Bool
is_line_end byte = byte == 10

-- a space or a tab, which separate fields
abbrev pub is_blank : ℕ → Bool
is_blank byte = byte == 32 || byte == 9

-- a part of a line that is something
abbrev pub is_field : List ℕ → Bool
is_field [] = false
is_field (byte ∷ part) = true

-- the fields of a line: what stands between blanks, where that is something
abbrev pub fields : List ℕ → List (List ℕ)
fields line = filter is_field (slice_split is_blank line)

-- the number that a field writes, where it is digits alone
abbrev pub number_of : List ℕ → Option ℕ
number_of field = if all_ascii_digits field then Some (digits_value 10 field) else None

-- an edge between these vertices, where there can be such vertices
abbrev pub edge_between : ℕ → ℕ → Option ℕ → Verdict
edge_between source target weight =
    if nat_lt source MAX_VERTICES && nat_lt target MAX_VERTICES
    then Gives (record { source = source; target = target; weight = weight })
    else TooLarge

-- what the numbers of a line's fields come to: an edge has two fields of digits, or three, the third below 2^32
abbrev pub judged : List (Option ℕ) → Verdict
judged [] = Skipped
judged (Some source ∷ Some target ∷ []) = edge_between source target None
judged (Some source ∷ Some target ∷ Some weight ∷ []) = if nat_lt weight (2 ^ 32) then edge_between source target (Some weight) else Broken
judged numbers = Broken

-- what a line is, given without its line end: a comment where it begins with #; else its fields decide, without one CR at its end
abbrev pub judge : List ℕ → Verdict
judge line = if slice_index line 0 == 35 then Skipped else judged (map number_of (fields (strip_carriage_return line)))

-- the edge that a line gives, if it gives one
abbrev pub edge_in : Verdict → Option Edge
edge_in (Gives edge) = Some edge
edge_in verdict = None

-- how many pairs there are up to and with a line, where so many stand before it
abbrev pub count_with : Bool → ℕ → Verdict → ℕ
count_with undirected count (Gives edge) = count + length (pairs_of undirected edge)
count_with undirected count verdict = count

-- why the line of this number is refused, if it is, where there are so many pairs up to and with it
abbrev pub refusal_of : ℕ → ℕ → Verdict → Option Refusal
refusal_of number count Skipped = None
refusal_of number count Broken = Some (BadLine number)
refusal_of number count TooLarge = Some (IdTooLarge number)
refusal_of number count (Gives edge) = if nat_lt MAX_ENTRIES count then Some (TooManyEdges number) else None

-- the refusal of the first line that is refused; the first of all has this number, and so many pairs stand before it
abbrev pub first_refusal : Bool → ℕ → ℕ → List Verdict → Option Refusal
first_refusal undirected number count [] = None
first_refusal undirected number count (verdict ∷ verdicts) =
    option_or (refusal_of number (count_with undirected count verdict) verdict) (first_refusal undirected (number + 1) (count_with undirected count verdict) verdicts)

-- a refusal, or else what was gathered
abbrev pub unless_refused : Option Refusal → EdgeList → Result EdgeList Refusal
unless_refused None edges = Ok edges
unless_refused (Some refusal) edges = Err refusal

-- what lines come to, the first of which has this number: the refusal of the first refused one, or what was gathered before and what
-- all their edges give, in the order of the lines
abbrev pub read_from : Bool → ℕ → EdgeList → List Verdict → Result EdgeList Refusal
read_from undirected number before verdicts =
    unless_refused (first_refusal undirected number (length before.pairs) verdicts) (with_edges undirected before (filter_map edge_in verdicts))

-- before the first line
abbrev pub nothing : EdgeList
nothing = record { n = 0; weighted = false; pairs = [] }

-- what the lines of a text come to
abbrev pub read_lines : Bool → List (List ℕ) → Result EdgeList Refusal
read_lines undirected lines = read_from undirected 1 nothing (map judge lines)

-- the lines of a text. What follows the last line end is one too; where that is empty it is skipped like any empty line
abbrev pub lines : List ℕ → List (List ℕ)
lines bytes = slice_split is_line_end bytes

-- those of them that a line end ends
abbrev pub ended_lines : List ℕ → List (List ℕ)
ended_lines bytes = take (count_by is_line_end bytes) (lines bytes)

-- the edges of a text that was read whole, in order
abbrev pub whole_text : Result EdgeList Refusal → Result EdgeList Refusal
whole_text (Ok edges) = Ok (record edges { pairs = merged edges.pairs })
whole_text (Err refusal) = Err refusal

-- what a text that is too long comes to, by the lines that end within the limit
abbrev pub cut_text : Result EdgeList Refusal → Result EdgeList Refusal
cut_text (Ok edges) = Err TextTooLong
cut_text (Err refusal) = Err refusal

-- what a text says: its edges, or its first refusal
unfoldable pub read_text : Bool → List ℕ → Result EdgeList Refusal
read_text undirected bytes =
    if nat_le (length bytes) MAX_TEXT_BYTES
    then whole_text (read_lines undirected (lines bytes))
    else cut_text (read_lines undirected (ended_lines (take MAX_TEXT_BYTES bytes)))

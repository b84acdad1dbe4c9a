-- Reading a text byte by byte is judging its lines.
use Rattle.std.proofs.Common.{◌≡◌, ℕ, suc, ◌+◌, ◌<◌, ◌≤◌, ◌++◌, ◌∷◌, ◌∙◌, ◌||◌, cond, ltb, Bool, true, false, None, Some, Ok, Err, List, [], drop, fold, length, map, take, refl, ap, sym, inl, inr, arith}
use Rattle.std.specs.Prelude.{is_some}
use Rattle.std.specs.List.{filter_map, flat_map, list_any, onto_first}
use Rattle.std.specs.Option.{option_or}
use Rattle.std.proofs.lemmas.Bool.{cases_Bool, le-leb, le-ltb, lt-leb}
use Rattle.std.proofs.lemmas.List.{append-nil, append_assoc, length-append, take-append-drop, take-map}
use Rattle.std.proofs.lemmas.List.Elements.{All-head, All-tail}
use Rattle.std.proofs.lemmas.List.Splits.{slice_split-cons_no, slice_split-cons_yes}
use Rattle.std.proofs.lemmas.List.Sums.{count_by-le-length, sum_by-append, sum_by-cons, sum_by-take-drop}
use Rattle.fg_base.specs.declared.limits.TheConstants.{MAX_ENTRIES, MAX_TEXT_BYTES}
use Rattle.fg_base.specs.declared.refusal.Refusal.{Refusal}
use Rattle.fg_model.specs.Edges.{EdgeList}
use Rattle.fg_text.specs.declared.line.Line.{Line}
use Rattle.fg_text.specs.declared.line.Line.TheVariants.{Start}
use Rattle.fg_text.specs.declared.reader.Reader.{Reader}
use Rattle.fg_text.specs.declared.verdict.Edge.{Edge}
use Rattle.fg_text.specs.declared.verdict.Verdict.{Verdict}
use Rattle.fg_text.specs.declared.verdict.Verdict.TheVariants.{Skipped, Gives}
use Rattle.fg_text.specs.Gathered.{pairs_of, with_edges}
use Rattle.fg_text.specs.Line.{line_after, verdict_of}
use Rattle.fg_text.specs.Reader.{AreWithinLine, line_ends, reads_on, verdicts_on}
use Rattle.fg_text.specs.Text.{count_with, cut_text, edge_in, ended_lines, first_refusal, is_line_end, judge, lines, nothing, read_from, read_text, refusal_of, unless_refused, whole_text}
use Rattle.fg_text.proofs.LineLemmas.{judge_end, judge_on, judge_step}

-- bytes within a line
verdicts_within : (whole : Bool) (line : Line) (bytes rest : List ℕ) → AreWithinLine bytes → verdicts_on whole (fold line_after line bytes) rest ≡ verdicts_on whole line (bytes ++ rest)
verdicts_within whole line [] rest within = refl
verdicts_within whole line (byte ∷ bytes) rest within =
    let P : ℕ → Type 0 = λ byte. is_line_end byte ≡ false in
    let inside : is_line_end byte ≡ false = All-head P byte bytes within in
    rw inside (verdicts_within whole (line_after line byte) bytes rest (All-tail P byte bytes within))

-- the verdicts of lines, the first of them begun so
abbrev verdicts_in : Line → List (List ℕ) → List Verdict
verdicts_in line [] = []
verdicts_in line (part ∷ parts) = judge_on line part ∷ map judge parts

verdicts_in_start : (parts : List (List ℕ)) → verdicts_in Start parts ≡ map judge parts
verdicts_in_start [] = refl
verdicts_in_start (part ∷ parts) = refl

lines_cons : (bytes : List ℕ) → (part : List ℕ) × (parts : List (List ℕ)) × (lines bytes ≡ part ∷ parts)
lines_cons [] = ([], [], refl)
lines_cons (byte ∷ bytes) =
    elim (cases_Bool (is_line_end byte)) [
      | inl end ↦ ([], lines bytes, slice_split-cons_yes is_line_end byte bytes end)
      | inr inside ↦
          let rest = lines_cons bytes in
          (byte ∷ rest.0, rest.1, slice_split-cons_no is_line_end byte bytes inside ∙ ap (onto_first byte) rest.2)
    ]

verdicts_whole : (line : Line) (bytes : List ℕ) → verdicts_on true line bytes ≡ verdicts_in line (lines bytes)
verdicts_whole line [] = ap (λ verdict. verdict ∷ []) (sym (judge_end line))
verdicts_whole line (byte ∷ bytes) =
    elim (cases_Bool (is_line_end byte)) [
      | inl end ↦
          rw (end) (ap (λ verdict. verdict ∷ verdicts_on true Start bytes) (sym (judge_end line)) ∙ ap (λ verdicts. judge_on line [] ∷ verdicts) (verdicts_whole Start bytes ∙ verdicts_in_start (lines bytes)))
      | inr inside ↦
          let rest = lines_cons bytes in
          let first : verdicts_on true (line_after line byte) bytes ≡ judge_on (line_after line byte) rest.0 ∷ map judge rest.1 = verdicts_whole (line_after line byte) bytes ∙ ap (verdicts_in (line_after line byte)) rest.2 in
          let last : judge_on line (byte ∷ rest.0) ∷ map judge rest.1 ≡ verdicts_in line (onto_first byte (lines bytes)) = ap (λ parts. verdicts_in line (onto_first byte parts)) (sym rest.2) in
          rw (inside) (first ∙ ap (λ verdict. verdict ∷ map judge rest.1) (judge_step line byte rest.0) ∙ last)
    ]

-- line ends, byte by byte
pub ends_more : (byte : ℕ) (bytes : List ℕ) → is_line_end byte ≡ true → line_ends (byte ∷ bytes) ≡ suc (line_ends bytes)
ends_more byte bytes end =
    let f : ℕ → ℕ = λ byte. cond (is_line_end byte) 1 0 in
    let one : f byte ≡ 1 = rw end refl in
    omega (arith, sum_by-cons f byte bytes, one)

pub ends_same : (byte : ℕ) (bytes : List ℕ) → is_line_end byte ≡ false → line_ends (byte ∷ bytes) ≡ line_ends bytes
ends_same byte bytes inside =
    let f : ℕ → ℕ = λ byte. cond (is_line_end byte) 1 0 in
    let none : f byte ≡ 0 = rw inside refl in
    omega (arith, sum_by-cons f byte bytes, none)

verdicts_cut : (line : Line) (bytes : List ℕ) → verdicts_on false line bytes ≡ take (line_ends bytes) (verdicts_on true line bytes)
verdicts_cut line [] = refl
verdicts_cut line (byte ∷ bytes) =
    elim (cases_Bool (is_line_end byte)) [
      | inl end ↦ rw (ends_more byte bytes end, end) (ap (λ verdicts. verdict_of line ∷ verdicts) (verdicts_cut Start bytes))
      | inr inside ↦ rw (ends_same byte bytes inside, inside) (verdicts_cut (line_after line byte) bytes)
    ]

-- gathering one edge and then others
or_assoc : (a b c : Bool) → ((a || (b || false)) || c) ≡ (a || (b || c))
or_assoc true b c = refl
or_assoc false true c = refl
or_assoc false false c = refl

or_none : (a : Bool) → (a || false) ≡ a
or_none true = refl
or_none false = refl

gathered_on : (undirected : Bool) (before : EdgeList) (edge : Edge) (edges : List Edge) → with_edges undirected (with_edges undirected before (edge ∷ [])) edges ≡ with_edges undirected before (edge ∷ edges)
gathered_on undirected before edge edges =
    let there = pairs_of undirected edge in
    let rest = flat_map (pairs_of undirected) edges in
    let all = with_edges undirected before (edge ∷ edges) in
    let weighted = or_assoc before.weighted (is_some edge.weight) (list_any (λ (edge : Edge). is_some edge.weight) edges) in
    let pairs : (before.pairs ++ (there ++ [])) ++ rest ≡ before.pairs ++ (there ++ rest) = ap (λ more. (before.pairs ++ more) ++ rest) (append-nil there) ∙ append_assoc before.pairs there rest in
    ap (λ w. record { n = all.n; weighted = w; pairs = (before.pairs ++ (there ++ [])) ++ rest }) weighted ∙ ap (λ ps. record { n = all.n; weighted = all.weighted; pairs = ps }) pairs

gathered_none : (undirected : Bool) (before : EdgeList) → with_edges undirected before [] ≡ before
gathered_none undirected before =
    ap (λ w. record { n = before.n; weighted = w; pairs = before.pairs ++ [] }) (or_none before.weighted) ∙ ap (λ ps. record { n = before.n; weighted = before.weighted; pairs = ps }) (append-nil before.pairs)

-- what reading comes to, one verdict on
read_skipped : (undirected : Bool) (number : ℕ) (before : EdgeList) (verdict : Verdict) (verdicts : List Verdict) → Skipped ≡ verdict →
    read_from undirected (number + 1) before verdicts ≡ read_from undirected number before (verdict ∷ verdicts)
read_skipped undirected number before verdict verdicts is = ap (λ verdict. read_from undirected number before (verdict ∷ verdicts)) is

read_refused : (undirected : Bool) (number : ℕ) (before : EdgeList) (verdict : Verdict) (verdicts : List Verdict) (refusal : Refusal) →
    refusal_of number (count_with undirected (length before.pairs) verdict) verdict ≡ Some refusal → read_from undirected number before (verdict ∷ verdicts) ≡ Err refusal
read_refused undirected number before verdict verdicts refusal refused =
    let count = count_with undirected (length before.pairs) verdict in
    let edges = with_edges undirected before (filter_map edge_in (verdict ∷ verdicts)) in
    ap (λ found. unless_refused (option_or found (first_refusal undirected (number + 1) count verdicts)) edges) refused

read_edge : (undirected : Bool) (number : ℕ) (before : EdgeList) (verdict : Verdict) (verdicts : List Verdict) (edge : Edge) → Gives edge ≡ verdict →
    length before.pairs + length (pairs_of undirected edge) ≤ MAX_ENTRIES →
    read_from undirected (number + 1) (with_edges undirected before (edge ∷ [])) verdicts ≡ read_from undirected number before (verdict ∷ verdicts)
read_edge undirected number before verdict verdicts edge is room =
    let there = pairs_of undirected edge in
    let count = length before.pairs + length there in
    let edges = filter_map edge_in verdicts in
    let counted : length (before.pairs ++ (there ++ [])) ≡ count = ap (λ more. length (before.pairs ++ more)) (append-nil there) ∙ length-append before.pairs there in
    let fits : ltb MAX_ENTRIES count ≡ false = le-ltb MAX_ENTRIES count room in
    let none : None ≡ refusal_of number count (Gives edge) = rw fits refl in
    ap (λ count. unless_refused (first_refusal undirected (number + 1) count verdicts) (with_edges undirected (with_edges undirected before (edge ∷ [])) edges)) counted
    ∙ ap (λ all. unless_refused (first_refusal undirected (number + 1) count verdicts) all) (gathered_on undirected before edge edges)
    ∙ ap (λ found. unless_refused (option_or found (first_refusal undirected (number + 1) count verdicts)) (with_edges undirected before (edge ∷ edges))) none
    ∙ ap (λ verdict. read_from undirected number before (verdict ∷ verdicts)) is

-- a reader that takes bytes within its line
pub reads_within : (whole : Bool) (reader : Reader) (bytes rest : List ℕ) → AreWithinLine bytes → reads_on whole (record reader { line = fold line_after reader.line bytes }) rest ≡ reads_on whole reader (bytes ++ rest)
unfolding reads_on
reads_within whole reader bytes rest within = ap (read_from reader.undirected reader.number reader.gathered) (verdicts_within whole reader.line bytes rest within)

-- a reader at the end of its line
pub reads_skipped : (whole : Bool) (reader : Reader) (rest : List ℕ) → Skipped ≡ verdict_of reader.line →
    reads_on whole (record reader { number = reader.number + 1; line = Start }) rest ≡ reads_on whole reader (10 ∷ rest)
unfolding reads_on
reads_skipped whole reader rest is = read_skipped reader.undirected reader.number reader.gathered (verdict_of reader.line) (verdicts_on whole Start rest) is

pub reads_refused : (whole : Bool) (reader : Reader) (rest : List ℕ) (refusal : Refusal) →
    refusal_of reader.number (count_with reader.undirected (length reader.gathered.pairs) (verdict_of reader.line)) (verdict_of reader.line) ≡ Some refusal → reads_on whole reader (10 ∷ rest) ≡ Err refusal
unfolding reads_on
reads_refused whole reader rest refusal refused = read_refused reader.undirected reader.number reader.gathered (verdict_of reader.line) (verdicts_on whole Start rest) refusal refused

pub reads_edge : (whole : Bool) (reader : Reader) (rest : List ℕ) (edge : Edge) → Gives edge ≡ verdict_of reader.line → length reader.gathered.pairs + length (pairs_of reader.undirected edge) ≤ MAX_ENTRIES →
    reads_on whole (record reader { number = reader.number + 1; line = Start; gathered = with_edges reader.undirected reader.gathered (edge ∷ []) }) rest ≡ reads_on whole reader (10 ∷ rest)
unfolding reads_on
reads_edge whole reader rest edge is room = read_edge reader.undirected reader.number reader.gathered (verdict_of reader.line) (verdicts_on whole Start rest) edge is room

-- a reader with nothing behind it
pub reads_last : (reader : Reader) → reads_on true reader [] ≡ reads_on false reader (10 ∷ [])
unfolding reads_on
reads_last reader = refl

pub reads_none : (reader : Reader) → reads_on false reader [] ≡ Ok reader.gathered
unfolding reads_on
reads_none reader = ap Ok (gathered_none reader.undirected reader.gathered)

-- a reader at the beginning
abbrev pub start_of : Bool → Reader
start_of undirected = record { undirected = undirected; number = 1; line = Start; gathered = nothing }

pub text_whole : (undirected : Bool) (bytes : List ℕ) → length bytes ≤ MAX_TEXT_BYTES → read_text undirected bytes ≡ whole_text (reads_on true (start_of undirected) bytes)
unfolding read_text reads_on
text_whole undirected bytes short =
    let fits = le-leb (length bytes) MAX_TEXT_BYTES short in
    let verdicts : map judge (lines bytes) ≡ verdicts_on true Start bytes = sym (verdicts_whole Start bytes ∙ verdicts_in_start (lines bytes)) in
    rw fits (ap (λ verdicts. whole_text (read_from undirected 1 nothing verdicts)) verdicts)

pub text_cut : (undirected : Bool) (bytes : List ℕ) → MAX_TEXT_BYTES < length bytes → read_text undirected bytes ≡ cut_text (reads_on false (start_of undirected) (take MAX_TEXT_BYTES bytes))
unfolding read_text reads_on
text_cut undirected bytes long =
    let over = lt-leb (length bytes) MAX_TEXT_BYTES long in
    let front = take MAX_TEXT_BYTES bytes in
    let all : map judge (lines front) ≡ verdicts_on true Start front = sym (verdicts_whole Start front ∙ verdicts_in_start (lines front)) in
    let verdicts : map judge (ended_lines front) ≡ verdicts_on false Start front =
    sym (take-map judge (line_ends front) (lines front)) ∙ ap (take (line_ends front)) all ∙ sym (verdicts_cut Start front) in
    rw over (ap (λ verdicts. cut_text (read_from undirected 1 nothing verdicts)) verdicts)

-- bytes within a line end none
pub ends_none : (bytes : List ℕ) → AreWithinLine bytes → line_ends bytes ≡ 0
ends_none [] within = refl
ends_none (byte ∷ bytes) within =
    let P : ℕ → Type 0 = λ byte. is_line_end byte ≡ false in
    ends_same byte bytes (All-head P byte bytes within) ∙ ends_none bytes (All-tail P byte bytes within)

-- line ends of parts
pub ends_parts : (bytes : List ℕ) (count : ℕ) → line_ends (take count bytes) + line_ends (drop count bytes) ≡ line_ends bytes
ends_parts bytes count = sum_by-take-drop (λ byte. cond (is_line_end byte) 1 0) bytes count

pub ends_append : (one other : List ℕ) → line_ends (one ++ other) ≡ line_ends one + line_ends other
ends_append one other = sum_by-append (λ byte. cond (is_line_end byte) 1 0) one other

pub ends_few : (bytes : List ℕ) → line_ends bytes ≤ length bytes
ends_few bytes = count_by-le-length is_line_end bytes

-- a front of bytes, what stands behind it, and the rest
pub parts_append : (bytes rest : List ℕ) (count : ℕ) → take count bytes ++ (drop count bytes ++ rest) ≡ bytes ++ rest
parts_append bytes rest count = sym (append_assoc (take count bytes) (drop count bytes) rest) ∙ ap (λ all. all ++ rest) (take-append-drop count bytes)

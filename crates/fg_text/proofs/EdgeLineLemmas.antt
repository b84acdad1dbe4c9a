-- The line of a generated edge reads as that edge.
use Rattle.std.proofs.Common.{◌≡◌, ℕ, ◌-◌, ◌<◌, ◌^◌, ◌++◌, ◌∷◌, ◌∙◌, ◌&&◌, eqb, leb, ltb, Bool, true, false, All, IsTrue, None, Some, List, [], filter, fold, get_or, length, map, refl, ap, sym, arith}
use Rattle.std.specs.Prelude.{decimal}
use Rattle.std.specs.Char.{is_ascii_digit}
use Rattle.std.specs.List.{slice_split}
use Rattle.std.specs.Str.{all_ascii_digits}
use Rattle.std.specs.Str.Lines.{strip_carriage_return}
use Rattle.std.specs.Str.Parse.{digits_value}
use Rattle.std.proofs.lemmas.Bool.{and_from, and_parts, leb-true, lt-ltb, ne_eqb, or_from}
use Rattle.std.proofs.lemmas.Fmt.{decimal_nonempty, digits_decimal, digits_value-decimal}
use Rattle.std.proofs.lemmas.List.{append_assoc, get_or-append_right, length-append}
use Rattle.std.proofs.lemmas.List.Elements.{All-append, All-cons, All-nil, All-weaker}
use Rattle.std.proofs.lemmas.List.Splits.{slice_split_at, slice_split_none}
use Rattle.std.proofs.lemmas.Str.Parse.{IsNumeralModel, numerals_by_value, tells_all_ascii_digits}
use Rattle.fg_base.specs.declared.limits.TheConstants.{MAX_VERTICES}
use Rattle.fg_text.specs.declared.line.Line.{Line}
use Rattle.fg_text.specs.declared.line.Line.TheVariants.{Start}
use Rattle.fg_text.specs.declared.reader.Reader.{Reader}
use Rattle.fg_text.specs.declared.verdict.Edge.{Edge}
use Rattle.fg_text.specs.declared.verdict.Verdict.TheVariants.{Gives}
use Rattle.fg_text.specs.Generator.{edge_line}
use Rattle.fg_text.specs.Line.{line_after, verdict_of}
use Rattle.fg_text.specs.Reader.{AreWithinLine, reads_on}
use Rattle.fg_text.specs.Text.{fields, is_blank, is_field, is_line_end, judge, judged, number_of}
use Rattle.fg_text.proofs.LineLemmas.{judge_end, judge_on, judge_step}
use Rattle.fg_text.proofs.ReaderLemmas.{reads_within}

-- a line read byte by byte is the line judged
pub judge_fold : (line : Line) (bytes : List ℕ) → verdict_of (fold line_after line bytes) ≡ judge_on line bytes
judge_fold line [] = sym (judge_end line)
judge_fold line (byte ∷ bytes) = judge_fold (line_after line byte) bytes ∙ judge_step line byte bytes

-- digits
abbrev pub AreDigits : List ℕ → Type 0
AreDigits bytes = All (λ byte. IsTrue (is_ascii_digit byte)) bytes

pub all_digits : (bytes : List ℕ) → all_ascii_digits bytes ≡ true → AreDigits bytes
all_digits [] digits = All-nil (λ byte. IsTrue (is_ascii_digit byte))
all_digits (byte ∷ bytes) digits =
    let both = and_parts (is_ascii_digit byte) (all_ascii_digits bytes) digits in
    All-cons (λ byte. IsTrue (is_ascii_digit byte)) byte bytes both.0 (all_digits bytes both.1)

-- a digit is no other byte
digit_is_not : (byte other : ℕ) → IsTrue (is_ascii_digit byte) → other < 48 → eqb byte other ≡ false
digit_is_not byte other digit below =
    let both = and_parts (leb 48 byte) (leb byte 57) digit in
    let low = leb-true 48 byte both.0 in
    ne_eqb byte other (λ e. omega arith)

digits_no_blank : (bytes : List ℕ) → AreDigits bytes → All (λ byte. is_blank byte ≡ false) bytes
digits_no_blank bytes digits =
    All-weaker (λ byte. IsTrue (is_ascii_digit byte)) (λ byte. is_blank byte ≡ false)
    (λ byte digit. or_from (eqb byte 32) (eqb byte 9) (digit_is_not byte 32 digit (omega arith)) (digit_is_not byte 9 digit (omega arith))) bytes digits

pub digits_within : (bytes : List ℕ) → AreDigits bytes → AreWithinLine bytes
digits_within bytes digits = All-weaker (λ byte. IsTrue (is_ascii_digit byte)) (λ byte. is_line_end byte ≡ false) (λ byte digit. digit_is_not byte 10 digit (omega arith)) bytes digits

-- digits at the end are no CR
strip_digits : (front digits : List ℕ) → 0 < length digits → AreDigits digits → strip_carriage_return (front ++ digits) ≡ front ++ digits
strip_digits front digits some are =
    let last = length (front ++ digits) - 1 in
    let long = length-append front digits in
    let at : get_or (front ++ digits) last 0 ≡ get_or digits (last - length front) 0 = get_or-append_right front digits (length front) last 0 refl (omega arith) in
    let digit : IsTrue (is_ascii_digit (get_or digits (last - length front) 0)) = are (last - length front) 0 (omega arith) in
    let other = digit_is_not (get_or digits (last - length front) 0) 13 digit (omega arith) in
    rw (at, other) refl

-- what begins with digits is no comment
no_comment : (digits behind : List ℕ) → 0 < length digits → AreDigits digits → eqb (get_or (digits ++ behind) 0 0) 35 ≡ false
no_comment [] behind some are = absurd (omega arith)
no_comment (byte ∷ digits) behind some are = digit_is_not byte 35 (are 0 0 (omega arith)) (omega arith)

-- digits are a field
field_kept : (digits : List ℕ) (parts : List (List ℕ)) → 0 < length digits → filter is_field (digits ∷ parts) ≡ digits ∷ filter is_field parts
field_kept [] parts some = absurd (omega arith)
field_kept (byte ∷ digits) parts some = refl

-- two fields of digits make an edge
edge_judged : (one other : List ℕ) (source target : ℕ) → 0 < length one → 0 < length other → all_ascii_digits one ≡ true → all_ascii_digits other ≡ true → digits_value 10 one ≡ source → digits_value 10 other ≡ target →
    source < MAX_VERTICES → target < MAX_VERTICES → judge (one ++ (32 ∷ other)) ≡ Gives (record { source = source; target = target; weight = None })
edge_judged one other source target some some' digits digits' value value' below below' =
    let are = all_digits one digits in
    let are' = all_digits other digits' in
    let whole : strip_carriage_return (one ++ (32 ∷ other)) ≡ one ++ (32 ∷ other) = ap strip_carriage_return (sym (append_assoc one (32 ∷ []) other)) ∙ strip_digits (one ++ (32 ∷ [])) other some' are' ∙ append_assoc one (32 ∷ []) other in
    let cut : slice_split is_blank (one ++ (32 ∷ other)) ≡ one ∷ other ∷ [] =
    slice_split_at is_blank one 32 other (digits_no_blank one are) refl ∙ ap (λ parts. one ∷ parts) (slice_split_none is_blank other (digits_no_blank other are')) in
    let kept : filter is_field (one ∷ other ∷ []) ≡ one ∷ other ∷ [] = field_kept one (other ∷ []) some ∙ ap (λ parts. one ∷ parts) (field_kept other [] some') in
    let number : number_of one ≡ Some source = rw digits (ap Some value) in
    let number' : number_of other ≡ Some target = rw digits' (ap Some value') in
    let both : (ltb source MAX_VERTICES && ltb target MAX_VERTICES) ≡ true = and_from _ _ (lt-ltb source MAX_VERTICES below) (lt-ltb target MAX_VERTICES below') in
    let comment = no_comment one (32 ∷ other) some are in
    let numbers : map number_of (fields (strip_carriage_return (one ++ (32 ∷ other)))) ≡ Some source ∷ Some target ∷ [] =
    ap (λ line. map number_of (fields line)) whole ∙ ap (λ parts. map number_of (filter is_field parts)) cut ∙ ap (map number_of) kept
    ∙ ap (λ first. first ∷ number_of other ∷ []) number ∙ ap (λ second. Some source ∷ second ∷ []) number' in
    rw comment (ap judged numbers ∙ rw both refl)

-- printed numbers
pub decimals : IsNumeralModel (λ digits. all_ascii_digits digits ≡ true) (digits_value 10)
decimals = numerals_by_value (λ digits. all_ascii_digits digits ≡ true) tells_all_ascii_digits

-- the line of an edge without its end
abbrev pub edge_body : Edge → List ℕ
edge_body edge = decimal edge.source ++ (32 ∷ decimal edge.target)

body_judged : (edge : Edge) → edge.weight ≡ None → edge.source < MAX_VERTICES → edge.target < MAX_VERTICES → judge (edge_body edge) ≡ Gives edge
body_judged edge plain source target =
    let fits : edge.source < 2 ^ 64 = omega arith in
    let fits' : edge.target < 2 ^ 64 = omega arith in
    edge_judged (decimal edge.source) (decimal edge.target) edge.source edge.target (decimal_nonempty edge.source fits) (decimal_nonempty edge.target fits') (digits_decimal decimals edge.source fits) (digits_decimal decimals edge.target fits')
    (digits_value-decimal decimals edge.source fits) (digits_value-decimal decimals edge.target fits') source target
    ∙ ap (λ weight. Gives (record { source = edge.source; target = edge.target; weight = weight })) (sym plain)

body_within : (edge : Edge) → edge.source < MAX_VERTICES → edge.target < MAX_VERTICES → AreWithinLine (edge_body edge)
body_within edge source target =
    let P : ℕ → Type 0 = λ byte. is_line_end byte ≡ false in
    let fits : edge.source < 2 ^ 64 = omega arith in
    let fits' : edge.target < 2 ^ 64 = omega arith in
    All-append P (decimal edge.source) (32 ∷ decimal edge.target) (digits_within (decimal edge.source) (all_digits (decimal edge.source) (digits_decimal decimals edge.source fits)))
    (All-cons P 32 (decimal edge.target) refl (digits_within (decimal edge.target) (all_digits (decimal edge.target) (digits_decimal decimals edge.target fits'))))

line_is_body : (edge : Edge) (rest : List ℕ) → edge_body edge ++ (10 ∷ rest) ≡ edge_line edge ++ rest
line_is_body edge rest =
    let source = decimal edge.source in
    let target = decimal edge.target in
    ap (λ body. body ++ (10 ∷ rest)) (sym (append_assoc source (32 ∷ []) target)) ∙ sym (append_assoc ((source ++ (32 ∷ [])) ++ target) (10 ∷ []) rest)

-- what was read of an edge's line, and at its end
pub edge_verdict : (reader : Reader) (edge : Edge) → reader.line ≡ Start → edge.weight ≡ None → edge.source < MAX_VERTICES → edge.target < MAX_VERTICES → Gives edge ≡ verdict_of (fold line_after reader.line (edge_body edge))
edge_verdict reader edge start plain source target =
    sym (ap (λ line. verdict_of (fold line_after line (edge_body edge))) start ∙ judge_fold Start (edge_body edge) ∙ body_judged edge plain source target)

pub edge_line_read : (whole : Bool) (reader : Reader) (edge : Edge) (rest : List ℕ) → edge.source < MAX_VERTICES → edge.target < MAX_VERTICES →
    reads_on whole (record reader { line = fold line_after reader.line (edge_body edge) }) (10 ∷ rest) ≡ reads_on whole reader (edge_line edge ++ rest)
edge_line_read whole reader edge rest source target = reads_within whole reader (edge_body edge) (10 ∷ rest) (body_within edge source target) ∙ ap (reads_on whole reader) (line_is_body edge rest)

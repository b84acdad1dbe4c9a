-- Reading a line byte by byte is judging it whole.
use Rattle.std.proofs.Common.{◌≡◌, ℕ, suc, ◌+◌, ◌-◌, ◌*◌, ◌^◌, ◌++◌, ◌∷◌, ◌∙◌, min, cond, eqb, leb, ltb, Bool, true, false, Option, None, Some, List, [], length, map, filter, take, get_or, refl, ap, sym, inl, inr, arith}
use Rattle.std.specs.Char.{digit_value, is_ascii_digit}
use Rattle.std.specs.List.{onto_first, slice_split}
use Rattle.std.specs.Option.{option_map}
use Rattle.std.specs.Str.{all_ascii_digits}
use Rattle.std.specs.Str.Lines.{strip_carriage_return}
use Rattle.std.specs.Str.Parse.{digits_value_after}
use Rattle.std.proofs.lemmas.Bool.{and_parts, cases_Bool, cases_lt, eqb-true, le-ltb, leb-true, lt-ltb, ne_eqb, or_cases, or_from}
use Rattle.std.proofs.lemmas.List.{append-nil}
use Rattle.std.proofs.lemmas.List.Splits.{slice_split-cons_no, slice_split-cons_yes}
use Rattle.std.proofs.lemmas.Str.{digit_value_digit}
use Rattle.fg_base.specs.declared.limits.TheConstants.{MAX_VERTICES}
use Rattle.fg_text.specs.declared.line.Fields.{Fields}
use Rattle.fg_text.specs.declared.line.Fields.TheVariants.{Empty, One, Two, Three}
use Rattle.fg_text.specs.declared.line.Line.{Line}
use Rattle.fg_text.specs.declared.line.Line.TheVariants.{Start, Comment, Spoiled, Gap, Field, Returned}
use Rattle.fg_text.specs.declared.line.Place.{Place}
use Rattle.fg_text.specs.declared.line.Place.TheVariants.{Source, Target, Weight}
use Rattle.fg_text.specs.declared.verdict.Verdict.{Verdict}
use Rattle.fg_text.specs.declared.verdict.Verdict.TheVariants.{Skipped, Broken}
use Rattle.fg_text.specs.Line.{after_digits, after_gap, begun, closed, judge_fields, line_after, numbers_in, verdict_of, with_digit}
use Rattle.fg_text.specs.Text.{edge_between, is_blank, is_field, judge, judged, number_of}

-- the numbers before a place
abbrev pub numbers_before : Place → List ℕ
numbers_before Source = []
numbers_before (Target source) = source ∷ []
numbers_before (Weight source target) = source ∷ target ∷ []

abbrev pub somes : List ℕ → List (Option ℕ)
somes numbers = map (λ number. Some number) numbers

-- the numbers of the parts that blanks separate, where those are something
abbrev pub numbers_of : List (List ℕ) → List (Option ℕ)
numbers_of parts = map number_of (filter is_field parts)

-- the number of a field that goes on with this part
abbrev pub number_on : ℕ → List ℕ → Option ℕ
number_on number part = cond (all_ascii_digits part) (Some (digits_value_after 10 number part)) None

-- the numbers of a field that goes on with the first part, and of the others
abbrev pub numbers_on : ℕ → List (List ℕ) → List (Option ℕ)
numbers_on number [] = Some number ∷ []
numbers_on number (part ∷ parts) = number_on number part ∷ numbers_of parts

abbrev pub parts_of : List ℕ → List (List ℕ)
parts_of bytes = slice_split is_blank (strip_carriage_return bytes)

-- what a line is that was begun so and goes on with these bytes
abbrev pub judge_on : Line → List ℕ → Verdict
judge_on Start rest = judge rest
judge_on Comment rest = Skipped
judge_on Spoiled rest = Broken
judge_on (Gap whole) rest = judged (somes (numbers_in whole) ++ numbers_of (parts_of rest))
judge_on (Field place number) rest = judged (somes (numbers_before place) ++ numbers_on number (parts_of rest))
judge_on (Returned whole) [] = judge_fields whole
judge_on (Returned whole) (byte ∷ rest) = Broken

-- numbers from 2^32 on are all too large
abbrev capped : Option ℕ → Option ℕ
capped number = option_map (λ n. min n (2 ^ 32)) number

edge_between_capped : (source target : ℕ) (weight : Option ℕ) → edge_between (min source (2 ^ 32)) (min target (2 ^ 32)) weight ≡ edge_between source target weight
edge_between_capped source target weight =
    elim (cases_lt source MAX_VERTICES) [
      | inr ge ↦
          let large : ltb source MAX_VERTICES ≡ false = le-ltb source MAX_VERTICES ge in
          let large' : ltb (min source (2 ^ 32)) MAX_VERTICES ≡ false = le-ltb (min source (2 ^ 32)) MAX_VERTICES (omega arith) in
          rw (large, large') refl
      | inl lt ↦
          let same : min source (2 ^ 32) ≡ source = omega arith in
          elim (cases_lt target MAX_VERTICES) [
            | inl lt' ↦
                let same' : min target (2 ^ 32) ≡ target = omega arith in
                rw (same, same') refl
            | inr ge ↦
                let small : ltb source MAX_VERTICES ≡ true = lt-ltb source MAX_VERTICES lt in
                let large : ltb target MAX_VERTICES ≡ false = le-ltb target MAX_VERTICES ge in
                let large' : ltb (min target (2 ^ 32)) MAX_VERTICES ≡ false = le-ltb (min target (2 ^ 32)) MAX_VERTICES (omega arith) in
                rw (same, small, large, large') refl
          ]
    ]

judged_capped : (numbers : List (Option ℕ)) → judged (map capped numbers) ≡ judged numbers
judged_capped [] = refl
judged_capped (None ∷ numbers) = refl
judged_capped (Some source ∷ []) = refl
judged_capped (Some source ∷ None ∷ numbers) = refl
judged_capped (Some source ∷ Some target ∷ []) = edge_between_capped source target None
judged_capped (Some source ∷ Some target ∷ None ∷ numbers) = refl
judged_capped (Some source ∷ Some target ∷ Some weight ∷ []) =
    elim (cases_lt weight (2 ^ 32)) [
      | inl lt ↦
          let same : min weight (2 ^ 32) ≡ weight = omega arith in
          rw same (ap (λ verdict. cond (ltb weight (2 ^ 32)) verdict Broken) (edge_between_capped source target (Some weight)))
      | inr ge ↦
          let large : ltb weight (2 ^ 32) ≡ false = le-ltb weight (2 ^ 32) ge in
          let large' : ltb (min weight (2 ^ 32)) (2 ^ 32) ≡ false = le-ltb (min weight (2 ^ 32)) (2 ^ 32) (omega arith) in
          rw (large, large') refl
    ]
judged_capped (Some source ∷ Some target ∷ Some weight ∷ number ∷ numbers) = refl

-- a number that counts as the same may stand for another
capped_alike : (before : List ℕ) (one other : Option ℕ) (behind : List (Option ℕ)) → capped one ≡ capped other →
    map capped (somes before ++ (one ∷ behind)) ≡ map capped (somes before ++ (other ∷ behind))
capped_alike [] one other behind same = ap (λ first. first ∷ map capped behind) same
capped_alike (number ∷ before) one other behind same = ap (λ rest. capped (Some number) ∷ rest) (capped_alike before one other behind same)

judged_alike : (before : List ℕ) (one other : Option ℕ) (behind : List (Option ℕ)) → capped one ≡ capped other →
    judged (somes before ++ (one ∷ behind)) ≡ judged (somes before ++ (other ∷ behind))
judged_alike before one other behind same =
    sym (judged_capped (somes before ++ (one ∷ behind))) ∙ ap judged (capped_alike before one other behind same) ∙ judged_capped (somes before ++ (other ∷ behind))

-- numbers that count as the same do so with more digits
value_alike : (one other : ℕ) (part : List ℕ) → min one (2 ^ 32) ≡ min other (2 ^ 32) → min (digits_value_after 10 one part) (2 ^ 32) ≡ min (digits_value_after 10 other part) (2 ^ 32)
value_alike one other [] same = same
value_alike one other (byte ∷ part) same = value_alike (one * 10 + digit_value byte) (other * 10 + digit_value byte) part (omega arith)

number_alike : (one other : ℕ) (part : List ℕ) → min one (2 ^ 32) ≡ min other (2 ^ 32) → capped (number_on one part) ≡ capped (number_on other part)
number_alike one other part same =
    elim (cases_Bool (all_ascii_digits part)) [
      | inl digits ↦ rw digits (ap Some (value_alike one other part same))
      | inr not_digits ↦ rw not_digits refl
    ]

-- a digit's value
value_of_digit : (byte : ℕ) → is_ascii_digit byte ≡ true → digit_value byte ≡ byte - 48
value_of_digit byte digit =
    let both = and_parts (leb 48 byte) (leb byte 57) digit in
    let value : digit_value byte + 48 ≡ byte = digit_value_digit byte (leb-true 48 byte both.0, leb-true byte 57 both.1) in
    omega arith

-- a number that stands still counts as the one with the digit
digit_alike : (number byte : ℕ) (part : List ℕ) → is_ascii_digit byte ≡ true → capped (number_on (with_digit number byte) part) ≡ capped (number_on number (byte ∷ part))
digit_alike number byte part digit =
    let value = value_of_digit byte digit in
    let same : min (with_digit number byte) (2 ^ 32) ≡ min (number * 10 + digit_value byte) (2 ^ 32) =
    elim (cases_lt number (2 ^ 32)) [
      | inl lt ↦ let small = lt-ltb number (2 ^ 32) lt in rw (small, value) refl
      | inr ge ↦ let large = le-ltb number (2 ^ 32) ge in rw (large) (omega arith)
    ] in
    number_alike (with_digit number byte) (number * 10 + digit_value byte) part same ∙ rw digit refl

-- the parts of bytes are some first one and the others
parts_cons : (bytes : List ℕ) → (part : List ℕ) × (parts : List (List ℕ)) × (slice_split is_blank bytes ≡ part ∷ parts)
parts_cons [] = ([], [], refl)
parts_cons (byte ∷ bytes) =
    elim (cases_Bool (is_blank byte)) [
      | inl blank ↦ ([], slice_split is_blank bytes, slice_split-cons_yes is_blank byte bytes blank)
      | inr other ↦
          let rest = parts_cons bytes in
          (byte ∷ rest.0, rest.1, slice_split-cons_no is_blank byte bytes other ∙ ap (onto_first byte) rest.2)
    ]

-- a byte that is no blank stands in the first part
parts_with : (byte : ℕ) (bytes part : List ℕ) (parts : List (List ℕ)) → is_blank byte ≡ false → slice_split is_blank bytes ≡ part ∷ parts → slice_split is_blank (byte ∷ bytes) ≡ (byte ∷ part) ∷ parts
parts_with byte bytes part parts other is = slice_split-cons_no is_blank byte bytes other ∙ ap (onto_first byte) is

-- a CR is dropped at the end alone
cons_cond : (test : Bool) (byte : ℕ) (one other : List ℕ) → cond test (byte ∷ one) (byte ∷ other) ≡ byte ∷ cond test one other
cons_cond true byte one other = refl
cons_cond false byte one other = refl

strip_more : (byte next : ℕ) (rest : List ℕ) → strip_carriage_return (byte ∷ next ∷ rest) ≡ byte ∷ strip_carriage_return (next ∷ rest)
strip_more byte next rest =
    let e : suc (suc (length rest)) - 1 ≡ suc (length rest) = omega arith in
    let f : suc (length rest) - 1 ≡ length rest = omega arith in
    rw (e, f) (cons_cond (eqb (get_or (next ∷ rest) (length rest) 0) 13) byte (take (length rest) (next ∷ rest)) (next ∷ rest))

strip_other : (byte : ℕ) (rest : List ℕ) → eqb byte 13 ≡ false → strip_carriage_return (byte ∷ rest) ≡ byte ∷ strip_carriage_return rest
strip_other byte [] other = rw other refl
strip_other byte (next ∷ rest) other = strip_more byte next rest

-- a byte that is no digit makes no number
no_number : (byte : ℕ) (part : List ℕ) → is_ascii_digit byte ≡ false → number_of (byte ∷ part) ≡ None
no_number byte part other = rw other refl

-- a field that is no number spoils a line
spoils : (whole : Fields) (behind : List (Option ℕ)) → judged (somes (numbers_in whole) ++ (None ∷ behind)) ≡ Broken
spoils Empty behind = refl
spoils (One source) behind = refl
spoils (Two source target) behind = refl
spoils (Three source target weight) behind = refl

spoils_at : (place : Place) (behind : List (Option ℕ)) → judged (somes (numbers_before place) ++ (None ∷ behind)) ≡ Broken
spoils_at Source behind = refl
spoils_at (Target source) behind = refl
spoils_at (Weight source target) behind = refl

-- what stands behind three fields spoils a line, or the next number is of the field that was begun
begins : (whole : Fields) (number : ℕ) (other : Option ℕ) (rest part : List ℕ) (parts : List (List ℕ)) → parts_of rest ≡ part ∷ parts → capped (number_on number part) ≡ capped other →
    judge_on (begun whole number) rest ≡ judged (somes (numbers_in whole) ++ (other ∷ numbers_of parts))
begins Empty number other rest part parts is same = rw is (judged_alike [] (number_on number part) other (numbers_of parts) same)
begins (One source) number other rest part parts is same = rw is (judged_alike (source ∷ []) (number_on number part) other (numbers_of parts) same)
begins (Two source target) number other rest part parts is same = rw is (judged_alike (source ∷ target ∷ []) (number_on number part) other (numbers_of parts) same)
begins (Three source target weight) number other rest part parts is same = refl

-- what a byte is, and what the tests say of it
data Class (byte : ℕ) : Type 0 where
  Digit : is_ascii_digit byte ≡ true → is_blank byte ≡ false → eqb byte 13 ≡ false → Class byte
  Blank : is_ascii_digit byte ≡ false → is_blank byte ≡ true → eqb byte 13 ≡ false → Class byte
  Return : is_ascii_digit byte ≡ false → is_blank byte ≡ false → eqb byte 13 ≡ true → Class byte
  Other : is_ascii_digit byte ≡ false → is_blank byte ≡ false → eqb byte 13 ≡ false → Class byte

class_of : (byte : ℕ) → Class byte
class_of byte =
    elim (cases_Bool (is_ascii_digit byte)) [
      | inl digit ↦
          let both = and_parts (leb 48 byte) (leb byte 57) digit in
          let low = leb-true 48 byte both.0 in
          Digit digit (or_from (eqb byte 32) (eqb byte 9) (ne_eqb byte 32 (λ e. omega arith)) (ne_eqb byte 9 (λ e. omega arith))) (ne_eqb byte 13 (λ e. omega arith))
      | inr no_digit ↦
          elim (cases_Bool (is_blank byte)) [
            | inl blank ↦
                Blank no_digit blank
                (elim (or_cases (eqb byte 32) (eqb byte 9) blank) [
                  | inl space ↦ let e = eqb-true byte 32 space in ne_eqb byte 13 (λ f. omega arith)
                  | inr tab ↦ let e = eqb-true byte 9 tab in ne_eqb byte 13 (λ f. omega arith)
                ])
            | inr no_blank ↦
                elim (cases_Bool (eqb byte 13)) [
                  | inl return ↦ Return no_digit no_blank return
                  | inr other ↦ Other no_digit no_blank other
                ]
          ]
    ]

-- the parts of bytes that begin with one that is no blank
first_part : (byte : ℕ) (rest behind part : List ℕ) (parts : List (List ℕ)) → is_blank byte ≡ false → strip_carriage_return (byte ∷ rest) ≡ byte ∷ behind → slice_split is_blank behind ≡ part ∷ parts →
    parts_of (byte ∷ rest) ≡ (byte ∷ part) ∷ parts
first_part byte rest behind part parts other stripped is = ap (slice_split is_blank) stripped ∙ parts_with byte behind part parts other is

-- a byte that can't stand in a field spoils the line
spoiled_gap : (whole : Fields) (byte : ℕ) (rest behind : List ℕ) → is_ascii_digit byte ≡ false → is_blank byte ≡ false → strip_carriage_return (byte ∷ rest) ≡ byte ∷ behind →
    Broken ≡ judge_on (Gap whole) (byte ∷ rest)
spoiled_gap whole byte rest behind no_digit no_blank stripped =
    let cut = parts_cons behind in
    let parts = first_part byte rest behind cut.0 cut.1 no_blank stripped cut.2 in
    let numbers : numbers_of (parts_of (byte ∷ rest)) ≡ None ∷ numbers_of cut.1 = ap numbers_of parts ∙ ap (λ number. number ∷ numbers_of cut.1) (no_number byte cut.0 no_digit) in
    sym (ap (λ behind. judged (somes (numbers_in whole) ++ behind)) numbers ∙ spoils whole (numbers_of cut.1))

spoiled_field : (place : Place) (number byte : ℕ) (rest behind : List ℕ) → is_ascii_digit byte ≡ false → is_blank byte ≡ false → strip_carriage_return (byte ∷ rest) ≡ byte ∷ behind →
    Broken ≡ judge_on (Field place number) (byte ∷ rest)
spoiled_field place number byte rest behind no_digit no_blank stripped =
    let cut = parts_cons behind in
    let parts = first_part byte rest behind cut.0 cut.1 no_blank stripped cut.2 in
    let none : number_on number (byte ∷ cut.0) ≡ None = rw no_digit refl in
    let numbers : numbers_on number (parts_of (byte ∷ rest)) ≡ None ∷ numbers_of cut.1 = ap (numbers_on number) parts ∙ ap (λ first. first ∷ numbers_of cut.1) none in
    sym (ap (λ behind. judged (somes (numbers_before place) ++ behind)) numbers ∙ spoils_at place (numbers_of cut.1))

-- a CR behind a gap or digits
return_in_gap : (whole : Fields) (byte : ℕ) (rest : List ℕ) → is_ascii_digit byte ≡ false → is_blank byte ≡ false → eqb byte 13 ≡ true → judge_on (Returned whole) rest ≡ judge_on (Gap whole) (byte ∷ rest)
return_in_gap whole byte [] no_digit no_blank return = rw return (ap judged (sym (append-nil (somes (numbers_in whole)))))
return_in_gap whole byte (next ∷ rest) no_digit no_blank return = spoiled_gap whole byte (next ∷ rest) (strip_carriage_return (next ∷ rest)) no_digit no_blank (strip_more byte next rest)

closes : (place : Place) (number : ℕ) (behind : List (Option ℕ)) → judged (somes (numbers_in (closed place number)) ++ behind) ≡ judged (somes (numbers_before place) ++ (Some number ∷ behind))
closes Source number behind = refl
closes (Target source) number behind = refl
closes (Weight source target) number behind = refl

return_in_field : (place : Place) (number byte : ℕ) (rest : List ℕ) → is_ascii_digit byte ≡ false → is_blank byte ≡ false → eqb byte 13 ≡ true →
    judge_on (Returned (closed place number)) rest ≡ judge_on (Field place number) (byte ∷ rest)
return_in_field place number byte [] no_digit no_blank return = rw return (ap judged (sym (append-nil (somes (numbers_in (closed place number))))) ∙ closes place number [])
return_in_field place number byte (next ∷ rest) no_digit no_blank return =
    spoiled_field place number byte (next ∷ rest) (strip_carriage_return (next ∷ rest)) no_digit no_blank (strip_more byte next rest)

-- a byte behind a gap
gap_step : (whole : Fields) (byte : ℕ) (rest : List ℕ) → judge_on (after_gap whole byte) rest ≡ judge_on (Gap whole) (byte ∷ rest)
gap_step whole byte rest =
    let behind = strip_carriage_return rest in
    let cut = parts_cons behind in
    elim (class_of byte) [
      | Digit digit no_blank no_return ↦
          let parts = first_part byte rest behind cut.0 cut.1 no_blank (strip_other byte rest no_return) cut.2 in
          rw digit
          (begins whole (with_digit 0 byte) (number_of (byte ∷ cut.0)) rest cut.0 cut.1 cut.2 (digit_alike 0 byte cut.0 digit)
          ∙ ap (λ behind. judged (somes (numbers_in whole) ++ behind)) (sym (ap numbers_of parts)))
      | Blank no_digit blank no_return ↦
          let parts : parts_of (byte ∷ rest) ≡ [] ∷ parts_of rest = ap (slice_split is_blank) (strip_other byte rest no_return) ∙ slice_split-cons_yes is_blank byte behind blank in
          rw (no_digit, blank) (ap (λ behind. judged (somes (numbers_in whole) ++ behind)) (sym (ap numbers_of parts)))
      | Return no_digit no_blank return ↦ rw (no_digit, no_blank, return) (return_in_gap whole byte rest no_digit no_blank return)
      | Other no_digit no_blank no_return ↦ rw (no_digit, no_blank, no_return) (spoiled_gap whole byte rest behind no_digit no_blank (strip_other byte rest no_return))
    ]

-- a byte behind the digits of a field
field_step : (place : Place) (number byte : ℕ) (rest : List ℕ) → judge_on (after_digits place number byte) rest ≡ judge_on (Field place number) (byte ∷ rest)
field_step place number byte rest =
    let behind = strip_carriage_return rest in
    let cut = parts_cons behind in
    let before = numbers_before place in
    elim (class_of byte) [
      | Digit digit no_blank no_return ↦
          let parts = first_part byte rest behind cut.0 cut.1 no_blank (strip_other byte rest no_return) cut.2 in
          rw digit
          (ap (λ parts. judged (somes before ++ numbers_on (with_digit number byte) parts)) cut.2
          ∙ judged_alike before (number_on (with_digit number byte) cut.0) (number_on number (byte ∷ cut.0)) (numbers_of cut.1) (digit_alike number byte cut.0 digit)
          ∙ ap (λ parts. judged (somes before ++ numbers_on number parts)) (sym parts))
      | Blank no_digit blank no_return ↦
          let parts : parts_of (byte ∷ rest) ≡ [] ∷ parts_of rest = ap (slice_split is_blank) (strip_other byte rest no_return) ∙ slice_split-cons_yes is_blank byte behind blank in
          rw (no_digit, blank) (closes place number (numbers_of (parts_of rest)) ∙ ap (λ parts. judged (somes before ++ numbers_on number parts)) (sym parts))
      | Return no_digit no_blank return ↦ rw (no_digit, no_blank, return) (return_in_field place number byte rest no_digit no_blank return)
      | Other no_digit no_blank no_return ↦ rw (no_digit, no_blank, no_return) (spoiled_field place number byte rest behind no_digit no_blank (strip_other byte rest no_return))
    ]

start_step : (byte : ℕ) (rest : List ℕ) → judge_on (line_after Start byte) rest ≡ judge (byte ∷ rest)
start_step byte rest =
    elim (cases_Bool (eqb byte 35)) [
      | inl comment ↦ rw comment refl
      | inr other ↦ rw other (gap_step Empty byte rest)
    ]

-- one byte more
pub judge_step : (line : Line) (byte : ℕ) (rest : List ℕ) → judge_on (line_after line byte) rest ≡ judge_on line (byte ∷ rest)
judge_step Start byte rest = start_step byte rest
judge_step Comment byte rest = refl
judge_step Spoiled byte rest = refl
judge_step (Gap whole) byte rest = gap_step whole byte rest
judge_step (Field place number) byte rest = field_step place number byte rest
judge_step (Returned whole) byte rest = refl

-- and the end
pub judge_end : (line : Line) → judge_on line [] ≡ verdict_of line
judge_end Start = refl
judge_end Comment = refl
judge_end Spoiled = refl
judge_end (Gap whole) = ap judged (append-nil (somes (numbers_in whole)))
judge_end (Field place number) = sym (closes place number []) ∙ ap judged (append-nil (somes (numbers_in (closed place number))))
judge_end (Returned whole) = refl

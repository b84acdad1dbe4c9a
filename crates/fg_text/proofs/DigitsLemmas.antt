-- Digits that are taken at once.
use Rattle.std.proofs.Common.{◌≡◌, ℕ, suc, ◌+◌, ◌<◌, ◌∷◌, ◌∙◌, leb, true, false, All, IsTrue, List, [], drop, fold, length, take, get_or, refl, ap, sym, arith}
use Rattle.std.specs.Char.{is_ascii_digit}
use Rattle.std.proofs.lemmas.Bool.{and_parts, leb-true, ne_eqb}
use Rattle.std.proofs.lemmas.List.Elements.{All-cons, All-head, All-tail, All-weaker}
use Rattle.fg_text.specs.declared.line.Line.{Line}
use Rattle.fg_text.specs.declared.line.Line.TheVariants.{Field}
use Rattle.fg_text.specs.declared.line.Place.{Place}
use Rattle.fg_text.specs.Line.{line_after, with_digit}
use Rattle.fg_text.specs.Reader.{AreWithinLine}
use Rattle.fg_text.specs.Text.{is_line_end}

abbrev AreDigits : List ℕ → Type 0
AreDigits bytes = All (λ byte. IsTrue (is_ascii_digit byte)) bytes

digit_within : (byte : ℕ) → IsTrue (is_ascii_digit byte) → is_line_end byte ≡ false
digit_within byte digit =
    let both = and_parts (leb 48 byte) (leb byte 57) digit in
    let low = leb-true 48 byte both.0 in
    ne_eqb byte 10 (λ e. omega arith)

digits_within : (bytes : List ℕ) → AreDigits bytes → AreWithinLine bytes
digits_within bytes digits = All-weaker (λ byte. IsTrue (is_ascii_digit byte)) (λ byte. is_line_end byte ≡ false) digit_within bytes digits

digits_stay : (place : Place) (number : ℕ) (bytes : List ℕ) → AreDigits bytes → fold line_after (Field place number) bytes ≡ Field place (fold with_digit number bytes)
digits_stay place number [] digits = refl
digits_stay place number (byte ∷ bytes) digits =
    let P : ℕ → Type 0 = λ byte. IsTrue (is_ascii_digit byte) in
    let digit : is_ascii_digit byte ≡ true = All-head P byte bytes digits in
    rw (digit) (digits_stay place (with_digit number byte) bytes (All-tail P byte bytes digits))

-- the first byte, and some behind it
first_and_more : (bytes : List ℕ) (count : ℕ) → 0 < length bytes → take (1 + count) bytes ≡ get_or bytes 0 0 ∷ take count (drop 1 bytes)
first_and_more [] count some = absurd (omega arith)
first_and_more (byte ∷ bytes) count some = let e : 1 + count ≡ suc count = omega arith in rw e refl

pub run_within : (bytes : List ℕ) (count : ℕ) → 0 < length bytes → AreWithinLine (take 1 bytes) → AreDigits (take count (drop 1 bytes)) → AreWithinLine (take (1 + count) bytes)
run_within [] count some within digits = absurd (omega arith)
run_within (byte ∷ bytes) count some within digits =
    let P : ℕ → Type 0 = λ byte. is_line_end byte ≡ false in
    rw (first_and_more (byte ∷ bytes) count some) (All-cons P byte (take count bytes) (All-head P byte [] within) (digits_within (take count bytes) digits))

pub run_line : (line : Line) (place : Place) (number total count : ℕ) (bytes : List ℕ) → 0 < length bytes → Field place number ≡ line_after line (get_or bytes 0 0) → AreDigits (take count (drop 1 bytes)) →
    total ≡ fold with_digit number (take count (drop 1 bytes)) → Field place total ≡ fold line_after line (take (1 + count) bytes)
run_line line place number total count bytes some first digits all =
    let more = take count (drop 1 bytes) in
    ap (Field place) all ∙ sym (digits_stay place number more digits) ∙ ap (λ line. fold line_after line more) first ∙ ap (fold line_after line) (sym (first_and_more bytes count some))

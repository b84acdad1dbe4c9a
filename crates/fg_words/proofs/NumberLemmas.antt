-- A word of digits is a numeral, and has no sign in front.
use Rattle.std.proofs.Common.{◌≡◌, ℕ, ◌*◌, ◌<◌, Bool, true, ◌&&◌, List, [], ◌∷◌, nat_lt, suc, zero, ap, sym, ◌∙◌, arith}
use Rattle.std.specs.List.{list_all}
use Rattle.std.specs.Char.{is_ascii_digit, digit_value}
use Rattle.std.proofs.lemmas.Bool.Decides.{nat_tests}
use Rattle.std.specs.Str.Parse.{AllDigits, IsNumeral, digits_value, without_leading_plus}
use Rattle.fg_words.specs.CommandLine.{is_number, is_past}

digit : (c : ℕ) → is_ascii_digit c ≡ true → digit_value c < 10
digit c h = grind arith

pub AllDigits-from_list_all : (ds : List ℕ) → list_all is_ascii_digit ds ≡ true → AllDigits 10 ds
AllDigits-from_list_all [] h = tt
AllDigits-from_list_all (c ∷ cs) h = (digit c (grind arith), AllDigits-from_list_all cs (grind arith))

no_sign : (c : ℕ) (cs : List ℕ) → is_ascii_digit c ≡ true → without_leading_plus (c ∷ cs) ≡ c ∷ cs
no_sign c cs h = grind arith

pub record NumeralOf (word : List ℕ) : Type 0 where
  pub no_plus : without_leading_plus word ≡ word
  pub numeral : IsNumeral 10 word

pub numeral_of : (word : List ℕ) → is_number word ≡ true → NumeralOf word
numeral_of [] h = grind arith
numeral_of (c ∷ cs) h =
    record { no_plus = no_sign c cs (grind arith); numeral = (grind arith, AllDigits-from_list_all (c ∷ cs) (grind arith)) }

-- a number past `most` is so any times but none
many_past : (most times number : ℕ) → most < number → nat_lt 0 times ≡ nat_lt most (times * number)
many_past most zero number past = grind (arith, nat_tests)
many_past most (suc times) number past = grind (arith, nat_tests)

pub long_past : (most times : ℕ) (word : List ℕ) → is_number word ≡ true → most < digits_value 10 word → nat_lt 0 times ≡ is_past most times word
long_past most times word numeral past =
    many_past most times (digits_value 10 word) past ∙ ap (λ (is : Bool). is && nat_lt most (times * digits_value 10 word)) (sym numeral)

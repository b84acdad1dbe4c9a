-- Words and the numbers beside them, put together.
use Rattle.std.proofs.Common.{◌≡◌, ℕ, suc, ◌+◌, ◌^◌, ◌<◌, Bool, true, false, cond, List, [], ◌∷◌, ◌++◌, length, refl, sym, ap, ◌∙◌, arith, append-nil}
use Rattle.std.proofs.lemmas.List.Sums.{sum_by-append}
use Rattle.std.proofs.lemmas.Bool.{ne_eqb}
use Rattle.std.proofs.lemmas.List.Elements.{All-cons, All-drop, All-head, All-nil, All-tail}
use Rattle.std.specs.Prelude.{All, slice_index}
use Rattle.fg_batch.specs.Mails.{ArePacked, NumbersFit, beside_in, is_beside, number_in, unpacked, wide_behind}
use Rattle.fg_model.specs.declared.mail.Mail.{Mail}

abbrev one_if : Bool → ℕ
one_if b = cond b 1 0

abbrev mail_of : ℕ → ℕ → Mail
mail_of target message = record { target = target; message = message }

pub length_unpacked : (words : List Mail) (wide : List ℕ) → length (unpacked words wide) ≡ length words
unfolding unpacked
length_unpacked [] wide = refl
length_unpacked (word ∷ words) wide = ap suc (length_unpacked words (wide_behind word wide))

beside_in-cons : (word : Mail) (words : List Mail) → beside_in (word ∷ words) ≡ one_if (is_beside word) + beside_in words
beside_in-cons word words =
    let one : 0 + one_if (is_beside word) ≡ one_if (is_beside word) = omega arith in
    sum_by-append (λ mail. one_if (is_beside mail)) (word ∷ []) words ∙ ap (λ (n : ℕ). n + beside_in words) one

none_left : (wide beside : List ℕ) → 0 ≡ length wide → wide ++ beside ≡ beside
none_left [] beside same = refl
none_left (x ∷ wide) beside same = absurd (omega (arith, same))

pub unpacked-append : (words more : List Mail) (wide beside : List ℕ) → beside_in words ≡ length wide
    → unpacked (words ++ more) (wide ++ beside) ≡ unpacked words wide ++ unpacked more beside
unfolding unpacked
unpacked-append [] more wide beside fits = ap (unpacked more) (none_left wide beside fits)
unpacked-append (word ∷ words) more wide beside fits = by_case (is_beside word) refl wide fits (λ left same. unpacked-append words more left beside same)
  where
    by_case : (b : Bool) → is_beside word ≡ b → (left : List ℕ) → beside_in (word ∷ words) ≡ length left
        → ((some : List ℕ) → beside_in words ≡ length some → unpacked (words ++ more) (some ++ beside) ≡ unpacked words some ++ unpacked more beside)
        → unpacked ((word ∷ words) ++ more) (left ++ beside) ≡ unpacked (word ∷ words) left ++ unpacked more beside
    by_case true is [] same rest = let one : one_if (is_beside word) ≡ 1 = ap one_if is in
        let all : one_if (is_beside word) + beside_in words ≡ 0 = sym (beside_in-cons word words) ∙ same in
        absurd (omega (arith, one, all))
    by_case true is (x ∷ left) same rest =
        let one : one_if (is_beside word) ≡ 1 = ap one_if is in
        let all : one_if (is_beside word) + beside_in words ≡ suc (length left) = sym (beside_in-cons word words) ∙ same in
        let fewer : beside_in words ≡ length left = omega (arith, one, all) in
        rw is (ap (λ (mails : List Mail). record { target = word.target; message = x } ∷ mails) (rest left fewer))
    by_case false is left same rest =
        let none : one_if (is_beside word) ≡ 0 = ap one_if is in
        let all : one_if (is_beside word) + beside_in words ≡ length left = sym (beside_in-cons word words) ∙ same in
        let fewer : beside_in words ≡ length left = omega (arith, none, all) in
        rw is (ap (λ (mails : List Mail). record { target = word.target; message = word.message } ∷ mails) (rest left fewer))

-- one more word whose number stands in it
pub unpacked-word : (words : List Mail) (wide : List ℕ) (mail : Mail) → beside_in words ≡ length wide → mail.message < 1099511627775
    → unpacked (words ++ mail ∷ []) wide ≡ unpacked words wide ++ mail ∷ []
unfolding unpacked
unpacked-word words wide mail fits small =
    let is : is_beside mail ≡ false = ne_eqb mail.message 1099511627775 (λ e. omega (arith, e, small)) in
    let one : unpacked (mail ∷ []) [] ≡ mail ∷ [] = rw is refl in
    ap (unpacked (words ++ mail ∷ [])) (sym (append-nil wide)) ∙ unpacked-append words (mail ∷ []) wide [] fits
    ∙ ap (λ (mails : List Mail). unpacked words wide ++ mails) one

-- one more word whose number stands beside
pub unpacked-wide : (words : List Mail) (wide : List ℕ) (target message : ℕ) → beside_in words ≡ length wide
    → unpacked (words ++ mail_of target 1099511627775 ∷ []) (wide ++ message ∷ []) ≡ unpacked words wide ++ mail_of target message ∷ []
unfolding unpacked
unpacked-wide words wide target message fits = unpacked-append words (mail_of target 1099511627775 ∷ []) wide (message ∷ []) fits

-- numbers of 64 bits
abbrev Fits64 : ℕ → Type 0
Fits64 number = number < 2 ^ 64

abbrev MailFits : Mail → Type 0
MailFits mail = mail.message < 2 ^ 64

first-fits : (wide : List ℕ) → All Fits64 wide → slice_index wide 0 < 2 ^ 64
first-fits [] fits = omega arith
first-fits (x ∷ wide) fits = All-head Fits64 x wide fits

number-fits : (word : Mail) (wide : List ℕ) → word.message < 2 ^ 64 → All Fits64 wide → number_in word wide < 2 ^ 64
number-fits word wide small large = by_case (is_beside word) refl
  where
    by_case : (b : Bool) → is_beside word ≡ b → number_in word wide < 2 ^ 64
    by_case true is = rw is (first-fits wide large)
    by_case false is = rw is small

behind-fits : (word : Mail) (wide : List ℕ) → All Fits64 wide → All Fits64 (wide_behind word wide)
behind-fits word wide large = by_case (is_beside word) refl
  where
    by_case : (b : Bool) → is_beside word ≡ b → All Fits64 (wide_behind word wide)
    by_case true is = rw is (All-drop Fits64 1 wide large)
    by_case false is = rw is large

numbers-fit : (words : List Mail) (wide : List ℕ) → NumbersFit words → All Fits64 wide → NumbersFit (unpacked words wide)
unfolding unpacked
numbers-fit [] wide small large = All-nil MailFits
numbers-fit (word ∷ words) wide small large =
    All-cons MailFits (record { target = word.target; message = number_in word wide }) (unpacked words (wide_behind word wide))
    (number-fits word wide (All-head MailFits word words small) large)
    (numbers-fit words (wide_behind word wide) (All-tail MailFits word words small) (behind-fits word wide large))

pub packed-fit : (words : List Mail) (wide : List ℕ) → ArePacked words wide → NumbersFit (unpacked words wide)
packed-fit words wide packed = numbers-fit words wide packed.small packed.large

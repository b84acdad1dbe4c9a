-- Messages as words of 8 bytes, with the numbers that don't fit beside them, in the order of their words.
use Rattle.std.specs.Prelude.{◌≡◌, ℕ, ◌^◌, ◌<◌, ◌==◌, Bool, List, [], ◌∷◌, All, drop, length, slice_index, if◌then◌else◌}
use Rattle.std.specs.List.{count_by}
use Rattle.fg_model.specs.declared.mail.Mail.{Mail}

-- messages, and how many more there is room for
pub record MailList : Type 0 where
  pub items : List Mail
  pub room : ℕ

-- the word's number says that the number stands beside
abbrev pub is_beside : Mail → Bool
is_beside word = word.message == 1099511627775

-- how many of the words say so
abbrev pub beside_in : List Mail → ℕ
beside_in words = count_by is_beside words

-- the number of a word's message, where these numbers are left beside
abbrev pub number_in : Mail → List ℕ → ℕ
number_in word wide = if is_beside word then slice_index wide 0 else word.message

-- the numbers that are left behind that word
abbrev pub wide_behind : Mail → List ℕ → List ℕ
wide_behind word wide = if is_beside word then drop 1 wide else wide

-- the messages that words and the numbers beside them stand for
unfoldable pub unpacked : List Mail → List ℕ → List Mail
unpacked [] wide = []
unpacked (word ∷ words) wide = record { target = word.target; message = number_in word wide } ∷ unpacked words (wide_behind word wide)

-- all numbers are of 64 bits
abbrev pub NumbersFit : List Mail → Type 0
NumbersFit mails = All (λ (mail : Mail). mail.message < 2 ^ 64) mails

-- as many numbers are left beside as words say so, and all numbers are of 64 bits
pub record ArePacked (words : List Mail) (wide : List ℕ) : Type 0 where
  pub beside : beside_in words ≡ length wide
  pub small : NumbersFit words
  pub large : All (λ number. number < 2 ^ 64) wide

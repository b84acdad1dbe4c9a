-- A target and a number in one word.
use Rattle.std.specs.Prelude.{◌≡◌, ℕ, ◌+◌, ◌*◌, ◌/◌, ◌%◌, ◌^◌}
use Rattle.std.proofs.Common.{ap}
use Rattle.std.proofs.lemmas.Nat.{shr_split}
use Rattle.fg_batch.specs.declared.word.Word.TheInside.{Inside}

abbrev word_of : ℕ → Inside
word_of both = record { both = both }

-- a word is put together again from what it tells
pub same_word : (inside : Inside) → word_of (inside.both / 2 ^ 40 * 2 ^ 40 + inside.both % 2 ^ 40) ≡ inside
same_word inside = ap word_of (shr_split inside.both 40)

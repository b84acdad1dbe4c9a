-- A flush behind a text that was written.
use Rattle.std.proofs.Common.{◌≡◌, Option, List, ℕ, Result, Ok, Err, OnErr, length, ap, sym, ◌∙◌}
use Rattle.std.proofs.Math.Seq.{take-length}
use Rattle.fg_base.specs.Told.{grown, GrewByFirst}

-- a text that is whole is a first part of itself, also where a flush behind it failed
pub whole_is_part : {A E : Type 0} (flushed : Result A E) (before after later : Option (List ℕ)) (text : List ℕ) →
    after ≡ grown before text → later ≡ after → OnErr flushed (GrewByFirst text before later)
whole_is_part (Ok done) before after later text is same = tt
whole_is_part (Err failed) before after later text is same =
    (length text, same ∙ is ∙ ap (λ part. grown before part) (sym (take-length text)))

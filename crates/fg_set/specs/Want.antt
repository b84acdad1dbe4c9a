-- The answers of `want`.
use Rattle.std.specs.Prelude.{◌≡◌, ℕ, Bool, true, false}
use Rattle.fg_set.specs.PageSet.{PageSet}
use Rattle.fg_set.specs.declared.answers.Want.{Want}
use Rattle.fg_set.specs.declared.answers.Want.TheVariants as want
use Rattle.fg_set.specs.declared.answers.WantSeen.{WantSeen}
use Rattle.fg_set.specs.declared.answers.WantSeen.TheVariants as seen

-- the answer without its slip
abbrev pub seen_of : Want → WantSeen
seen_of (want.Hit frame) = seen.Hit frame
seen_of (want.Start frame) = seen.Start frame
seen_of (want.Loading _) = seen.Loading
seen_of (want.Again _) = seen.Again

abbrev pub is_hit : WantSeen → Bool
is_hit (seen.Hit _) = true
is_hit (seen.Start _) = false
is_hit seen.Loading = false
is_hit seen.Again = false

abbrev pub is_start : WantSeen → Bool
is_start (seen.Hit _) = false
is_start (seen.Start _) = true
is_start seen.Loading = false
is_start seen.Again = false

-- the slip, where there is one, was made from this directory and this page
abbrev pub SlipNames : PageSet → ℕ → Want → Type 0
SlipNames set page (want.Hit _) = Unit {0}
SlipNames set page (want.Start _) = Unit {0}
SlipNames set page (want.Loading slip) = (slip.page ≡ page) × (slip.set ≡ set)
SlipNames set page (want.Again slip) = (slip.page ≡ page) × (slip.set ≡ set)

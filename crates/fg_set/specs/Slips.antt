-- When `want` gives no frame, and what its slips were made from.
use Rattle.std.specs.Prelude.{◌≡◌, ◌||◌, ℕ, Bool, true, false, Some, All, Any}
use Rattle.fg_set.specs.Entry.{page_of, is_empty, is_free, is_pinned}
use Rattle.fg_set.specs.PageSet.{PageSet}
use Rattle.fg_set.specs.declared.entry.Entry.{Entry}
use Rattle.fg_set.specs.declared.entry.EntryState.{EntryState}
use Rattle.fg_set.specs.declared.entry.EntryState.TheVariants.{Empty, Loading, Ready}

-- the page that was asked for, and the directory as it was then, which the call left as it was
pub record Refused : Type 0 where
  pub page : ℕ
  pub set : PageSet

abbrev pub is_state_coming : EntryState → Bool
is_state_coming Empty = false
is_state_coming (Loading _) = true
is_state_coming (Ready _) = false

-- an entry that is pinned or loading can't be taken
abbrev pub is_held : Entry → Bool
is_held entry = is_pinned entry || is_state_coming entry.state

-- an entry that is empty or free can
abbrev pub is_open : Entry → Bool
is_open entry = is_empty entry || is_free entry

-- some entry has the page, ready or on its way
abbrev pub IsListed : PageSet → ℕ → Type 0
IsListed set page = Any (λ entry. page_of entry ≡ Some page) set.entries

-- some entry is loading the page
abbrev pub IsUnderWay : PageSet → ℕ → Type 0
IsUnderWay set page = Any (λ entry. entry.state ≡ Loading page) set.entries

-- the page is in no entry, and every entry is pinned or loading
pub record IsAllHeld (set : PageSet) (page : ℕ) : Type 0 where
  pub unlisted : ¬ IsListed set page
  pub held : All (λ entry. is_held entry ≡ true) set.entries

-- the page is in no entry, and some entry is empty or free
pub record HasRoom (set : PageSet) (page : ℕ) : Type 0 where
  pub unlisted : ¬ IsListed set page
  pub room : Any (λ entry. is_open entry ≡ true) set.entries

-- The whole pages of a drive's bytes, and a drive's room for more of them.
use Rattle.std.specs.Prelude.{ℕ, ◌*◌, ◌/◌, ◌-◌, ◌≤◌, List, length, take, drop, Option, Some, None}
use Rattle.fg_base.specs.declared.limits.TheConstants.{PAGE_BYTES}

-- how many whole pages bytes hold
abbrev pub page_count : List ℕ → ℕ
page_count bytes = length bytes / PAGE_BYTES

-- the bytes of so many pages from this one on
abbrev pub pages_of : ℕ → ℕ → List ℕ → List ℕ
pages_of first count bytes = take (count * PAGE_BYTES) (drop (first * PAGE_BYTES) bytes)

-- the room is told, and it is enough for so many pages
abbrev pub HasRoom : Option ℕ → ℕ → Type 0
HasRoom None pages = ⊥
HasRoom (Some free) pages = pages ≤ free

-- the room once so many pages were appended
abbrev pub lessened : Option ℕ → ℕ → Option ℕ
lessened None pages = None
lessened (Some free) pages = Some (free - pages)

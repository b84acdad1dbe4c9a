-- How the pages of an image are striped over drives: units of so many pages are dealt out in turn, and each drive keeps
-- its pages in order behind its label, which is its local page 0.
use Rattle.std.specs.Prelude.{ℕ, List, ◌+◌, ◌-◌, ◌*◌, ◌/◌, ◌%◌, ◌==◌}
use Rattle.std.specs.List.{filter, range_with_len}
use Rattle.fg_stripe.specs.declared.layout.Place.{Place}

-- the drive of a page of the image, by drives and unit
abbrev pub drive_of : ℕ → ℕ → ℕ → ℕ
drive_of page drives unit = page / unit % drives

-- its page on that drive
abbrev pub local_of : ℕ → ℕ → ℕ → ℕ
local_of page drives unit = 1 + page / unit / drives * unit + page % unit

abbrev pub place_of : ℕ → ℕ → ℕ → Place
place_of page drives unit = record { drive = drive_of page drives unit; local = local_of page drives unit }

-- the page of the image that stands at a place behind a label
abbrev pub page_at : Place → ℕ → ℕ → ℕ
page_at place drives unit = ((place.local - 1) / unit * drives + place.drive) * unit + (place.local - 1) % unit

-- the pages on a drive, of an image of so many, in order
abbrev pub pages_on : ℕ → ℕ → ℕ → ℕ → List ℕ
pages_on drive drives unit pages = filter (λ page. drive_of page drives unit == drive) (range_with_len 0 pages)

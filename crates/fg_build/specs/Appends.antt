-- The order of a build's appends: each drive's label in order of drives, and then each page of the image, ascending, to the
-- drive of its place.
use Rattle.std.specs.Prelude.{◌≡◌, ℕ, ◌/◌, ◌==◌, Option, Result, Ok, Err, List, [], ◌∷◌, ◌++◌, length, map, take}
use Rattle.std.specs.List.{filter, flat_map, range_with_len}
use Rattle.fg_base.specs.declared.refusal.Refusal.{Refusal}
use Rattle.fg_base.specs.Told.{grown}
use Rattle.fg_base.specs.declared.limits.TheConstants.{PAGE_BYTES}
use Rattle.fg_build.specs.Layouts.{Plan, label_for}
use Rattle.fg_image.specs.Made.{image_bytes}
use Rattle.fg_model.specs.Edges.{EdgeList}
use Rattle.fg_outside.specs.Drives.{EachDriveFrom, EachSame}
use Rattle.fg_stripe.specs.declared.label.Label.{Label}
use Rattle.fg_stripe.specs.Held.{page_of}
use Rattle.fg_stripe.specs.Label.{label_bytes}
use Rattle.fg_stripe.specs.Striping.{drive_of}

-- an append of a page to the drive of this number
pub record PageAppend : Type 0 where
  pub drive : ℕ
  pub page : List ℕ

abbrev pub append_of : ℕ → List ℕ → PageAppend
append_of drive page = record { drive = drive; page = page }

-- the labels of so many drives, each the given one but for the drive's number
abbrev pub label_appends : ℕ → Label → List PageAppend
label_appends count label = map (λ drive. append_of drive (label_bytes (record label { drive = drive }))) (range_with_len 0 count)

-- the first so many pages of an image, each to its drive of so many, in units of so many pages
abbrev pub page_appends : ℕ → ℕ → List ℕ → ℕ → List PageAppend
page_appends drives unit image count = map (λ page. append_of (drive_of page drives unit) (page_of image page)) (range_with_len 0 count)

-- the labels, and then the pages
abbrev pub image_appends : Plan → List ℕ → List PageAppend
image_appends plan image =
    label_appends plan.drives (label_for plan (length image / PAGE_BYTES) 0) ++ page_appends plan.drives plan.unit image (length image / PAGE_BYTES)

-- the appends by which the image of these edges is built
unfoldable pub build_appends : Plan → EdgeList → List PageAppend
build_appends plan edges = image_appends plan (image_bytes edges)

-- the bytes that these appends give to the drive of this number, in order
abbrev pub added_to : ℕ → List PageAppend → List ℕ
added_to drive appends = flat_map (λ (one : PageAppend). one.page) (filter (λ (one : PageAppend). one.drive == drive) appends)

-- each drive holds what these appends gave it, behind what it held
abbrev pub HoldAfter : {D : Type 0} → (D → Option (List ℕ)) → List PageAppend → List D → List D → Type 0
HoldAfter held appends olds news = EachDriveFrom 0 (λ drive old new. held new ≡ grown (held old) (added_to drive appends)) olds news

-- the appends came to an end at one that failed, of the drive of this number: the drives hold what those before it gave them,
-- whole, and so many first bytes of its page
pub record StopsAmong {D : Type 0} (held : D → Option (List ℕ)) (appends : List PageAppend) (failed : ℕ) (olds news : List D) : Type 0 where
  pub before : List PageAppend
  pub next : PageAppend
  pub behind : List PageAppend
  pub order : appends ≡ before ++ next ∷ behind
  pub own : next.drive ≡ failed
  pub bytes : ℕ
  pub holds : HoldAfter held (before ++ append_of failed (take bytes next.page) ∷ []) olds news

-- what an answer of making these appends says of what the drives hold
abbrev pub AppendsInOrder : {D : Type 0} → (D → Option (List ℕ)) → List PageAppend → List D → List D → Result Unit Refusal → Type 0
AppendsInOrder held appends olds news (Ok unit) = HoldAfter held appends olds news
AppendsInOrder held appends olds news (Err (Refusal.DriveFault drive)) = StopsAmong held appends drive olds news
AppendsInOrder held appends olds news (Err refusal) = ⊥

-- the same of an answer of building, which appends nothing where memory is wanting
abbrev pub BuildsInOrder : {D : Type 0} → (D → Option (List ℕ)) → List PageAppend → List D → List D → Result ℕ Refusal → Type 0
BuildsInOrder held appends olds news (Ok pages) = HoldAfter held appends olds news
BuildsInOrder held appends olds news (Err Refusal.Memory) = EachSame held olds news
BuildsInOrder held appends olds news (Err (Refusal.DriveFault drive)) = StopsAmong held appends drive olds news
BuildsInOrder held appends olds news (Err refusal) = ⊥

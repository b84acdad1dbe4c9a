-- What drives hold are bytes, and so are the pages of an image on them.
use Rattle.std.proofs.Common.{◌≡◌, ℕ, zero, suc, ◌*◌, ◌<◌, Option, None, Some, IfSome, List, [], ◌∷◌, slice_index_or, subst}
use Rattle.std.proofs.lemmas.List.Elements.{All-append, All-cons, All-drop, All-head, All-nil, All-tail, All-take}
use Rattle.std.specs.List.{All, flat_map, range_with_len}
use Rattle.fg_outside.specs.Drives.{all_told, told_before}
use Rattle.fg_stripe.specs.Held.{image_on, page_on}
use Rattle.fg_stripe.specs.Striping.{drive_of, local_of}

-- numbers that are bytes
abbrev pub AreBytes : List ℕ → Type 0
AreBytes bytes = All (λ byte. byte < 256) bytes

told_before-all : {A : Type 0} (P : A → Type 0) (item : Option A) (items : Option (List A)) → IfSome item P → IfSome items (All P) → IfSome (told_before item items) (All P)
told_before-all P None items one all = tt
told_before-all P (Some item) None one all = tt
told_before-all P (Some item) (Some items) one all = All-cons P item items one all

-- what all drives tell has a property that what each tells has
pub all_told-all : {D A : Type 0} (tells : D → Option A) (P : A → Type 0) → ((drive : D) → IfSome (tells drive) P) → (drives : List D) → IfSome (all_told tells drives) (All P)
all_told-all tells P each [] = All-nil P
all_told-all tells P each (drive ∷ drives) = told_before-all P (tells drive) (all_told tells drives) (each drive) (all_told-all tells P each drives)

-- drives that tell hold bytes, by the law of drives
pub helds_are_bytes : {D : Type 0} (held : D → Option (List ℕ)) → ((drive : D) → IfSome (held drive) AreBytes) → (drives : List D) (helds : List (List ℕ))
    → all_told held drives ≡ Some helds → All AreBytes helds
helds_are_bytes held law drives helds told =
    let P : Option (List (List ℕ)) → Type 0 = λ all. IfSome all (All AreBytes) in
    subst P told (all_told-all held AreBytes law drives)

held_bytes : (helds : List (List ℕ)) (drive : ℕ) → All AreBytes helds → AreBytes (slice_index_or helds drive [])
held_bytes [] drive all = All-nil (λ byte. byte < 256)
held_bytes (held ∷ helds) zero all = All-head AreBytes held helds all
held_bytes (held ∷ helds) (suc drive) all = held_bytes helds drive (All-tail AreBytes held helds all)

-- a page of an image on drives that hold bytes
pub page_bytes : (unit : ℕ) (helds : List (List ℕ)) (page : ℕ) → All AreBytes helds → AreBytes (page_on unit helds page)
page_bytes unit helds page all =
    All-take (λ byte. byte < 256) 4096 _ (All-drop (λ byte. byte < 256) (local_of page _ unit * 4096) _ (held_bytes helds (drive_of page _ unit) all))

pages_bytes : (page : ℕ → List ℕ) (numbers : List ℕ) → ((number : ℕ) → AreBytes (page number)) → AreBytes (flat_map page numbers)
pages_bytes page [] each = All-nil (λ byte. byte < 256)
pages_bytes page (number ∷ numbers) each = All-append (λ byte. byte < 256) (page number) (flat_map page numbers) (each number) (pages_bytes page numbers each)

-- and the whole image
pub image_bytes : (unit pages : ℕ) (helds : List (List ℕ)) → All AreBytes helds → AreBytes (image_on unit pages helds)
unfolding image_on
image_bytes unit pages helds all = pages_bytes (page_on unit helds) (range_with_len 0 pages) (λ page. page_bytes unit helds page all)

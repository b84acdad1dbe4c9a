-- What the header page of an image says, by what was read of it.
use Rattle.std.proofs.Common.{◌≡◌, ◌∙◌, ℕ, Bool, true, false, cond, nat_eq, Option, IfSome, Result, Ok, Err, List, sym, ap, subst, inl, inr, eqb}
use Rattle.std.proofs.lemmas.Bool.{cases_Bool, cond-true, cond-false}
use Rattle.std.proofs.lemmas.Option.{IfSome_then}
use Rattle.std.specs.List.{starts_with}
use Rattle.fg_base.specs.declared.refusal.Refusal.{Refusal}
use Rattle.fg_base.specs.declared.refusal.Refusal.TheVariants.{BadHeader, BadIndex, BadSections, BadVersion, Memory}
use Rattle.fg_build.specs.Calls.{AllRead, IsContent, IsOutside, ReadUntil, SaysOf}
use Rattle.fg_build.specs.PagesTold.{IsBehindLabels}
use Rattle.fg_build.proofs.CallLaws.{MatchOpening-content, content_behind, memory_behind}
use Rattle.fg_base.specs.declared.plain.Dir.{Dir}
use Rattle.fg_image.specs.declared.header.Header.{Header}
use Rattle.fg_image.specs.Front.{front_at, with_header, with_layout}
use Rattle.fg_image.specs.Header.{has_sections, header_at, header_of, image_magic, sections_of}
use Rattle.fg_index.specs.ImageIndex.{IsFaultOf}
use Rattle.fg_outside.specs.declared.drive.Read.{Read}
use Rattle.fg_outside.specs.Drives.{DriveRead}
use Rattle.fg_stripe.specs.declared.layout.Layout.{Layout}

ok_never : {A : Type 0} (value : A) (refusal : Refusal) (P : Refusal → Type 0) → Err refusal ≡ Ok value → P refusal
ok_never value refusal P never = absurd (cc)

err_is : (A : Type 0) (one refusal : Refusal) (P : Refusal → Type 0) → P one → (let wrap : Refusal → Result A Refusal = Err in wrap refusal ≡ wrap one) → P refusal
err_is A one refusal P holds is = let same : one ≡ refusal = cc in subst P same holds

if_err : {A : Type 0} (test : Bool) (x y : Result A Refusal) (refusal : Refusal) (P : Refusal → Type 0) → (Err refusal ≡ x → P refusal) → (Err refusal ≡ y → P refusal)
    → Err refusal ≡ cond test x y → P refusal
if_err true x y refusal P one other is = one is
if_err false x y refusal P one other is = other is

-- what holds of each refusal of a header page holds of the one that came
header_at-holds : (P : Refusal → Type 0) → P BadHeader → ((found : ℕ) → P (BadVersion found)) → (page : List ℕ) (refusal : Refusal) → Err refusal ≡ header_at page → P refusal
header_at-holds P bad unknown page refusal is =
    if_err (starts_with nat_eq page image_magic) _ _ refusal P
    (λ marked. if_err (eqb (header_of page).version 1) _ _ refusal P
    (λ known. if_err _ _ _ refusal P (ok_never (header_of page) refusal P) (err_is Header BadHeader refusal P bad) known)
    (err_is Header (BadVersion (header_of page).version) refusal P (unknown (header_of page).version)) marked)
    (err_is Header BadHeader refusal P bad) is

sections_of-holds : (P : Refusal → Type 0) → P BadSections → (header : Header) (pages : ℕ) (refusal : Refusal) → Err refusal ≡ sections_of header pages → P refusal
sections_of-holds P bad header pages refusal is =
    if_err (has_sections pages header) _ _ refusal P (ok_never _ refusal P) (err_is Layout BadSections refusal P bad) is

-- what refuses a header page says something of what drives hold
pub header_at-content : (page : List ℕ) (refusal : Refusal) → Err refusal ≡ header_at page → IsContent refusal
header_at-content page refusal is = header_at-holds IsContent tt (λ found. tt) page refusal is

pub sections_of-content : (header : Header) (pages : ℕ) (refusal : Refusal) → Err refusal ≡ sections_of header pages → IsContent refusal
sections_of-content header pages refusal is = sections_of-holds IsContent tt header pages refusal is

-- and it stands behind the labels
pub header_at-behind : (page : List ℕ) (refusal : Refusal) → Err refusal ≡ header_at page → IsBehindLabels refusal
header_at-behind page refusal is = header_at-holds IsBehindLabels tt (λ found. tt) page refusal is

pub sections_of-behind : (header : Header) (pages : ℕ) (refusal : Refusal) → Err refusal ≡ sections_of header pages → IsBehindLabels refusal
sections_of-behind header pages refusal is = sections_of-holds IsBehindLabels tt header pages refusal is

pub outside-behind : (refusal : Refusal) → IsOutside refusal → IsBehindLabels refusal
outside-behind Memory is = tt
outside-behind (Refusal.DriveFault drive) is = tt
outside-behind (Refusal.NoLabel drive) is = absurd is
outside-behind (Refusal.WrongDrive drive found) is = absurd is
outside-behind (Refusal.LabelDiffers drive) is = absurd is
outside-behind (Refusal.ShortDrive drive have need) is = absurd is
outside-behind BadHeader is = absurd is
outside-behind (BadVersion found) is = absurd is
outside-behind BadSections is = absurd is
outside-behind (BadIndex dir place) is = absurd is
outside-behind refusal is = absurd is

-- placed sections are of as many pages
pub sections_pages : (header : Header) (pages : ℕ) (layout : Layout) → Ok layout ≡ sections_of header pages → layout.pages ≡ pages
sections_pages header pages layout placed =
    let stood : Layout = record { drives = 1; unit = 1; pages = pages; out_first = header.out_first; in_first = header.in_first } in
    elim (cases_Bool (has_sections pages header)) [
      | inl is_so ↦
          let same : Ok layout ≡ Ok stood = placed ∙ cond-true (has_sections pages header) (Ok stood) (Err BadSections) is_so in
          let inside : layout ≡ stood = cc in
          ap (λ (l : Layout). l.pages) inside
      | inr is_not ↦
          let never : Ok layout ≡ Err BadSections = placed ∙ cond-false (has_sections pages header) (Ok stood) (Err BadSections) is_not in
          absurd (cc)
    ]

module _ (told : Option (List (List ℕ))) (page_at : List (List ℕ) → List ℕ) (page : List ℕ) (pages : ℕ) (is : IfSome told (λ helds. page ≡ page_at helds)) where
  pub header_refused : (refusal : Refusal) → Err refusal ≡ header_at page → IfSome told (λ helds. SaysOf refusal (front_at pages (page_at helds) ≡ Err refusal))
  header_refused refusal read =
      IfSome_then told is
      (λ helds same. MatchOpening-content refusal _ _ _ (header_at-content page refusal read)
      (ap (front_at pages) (sym same) ∙ ap (with_header pages) (sym read)))

  module _ (header : Header) (read : Ok header ≡ header_at page) where
    pub sections_refused : (refusal : Refusal) → Err refusal ≡ sections_of header pages → IfSome told (λ helds. SaysOf refusal (front_at pages (page_at helds) ≡ Err refusal))
    sections_refused refusal placed =
        IfSome_then told is
        (λ helds same. MatchOpening-content refusal _ _ _ (sections_of-content header pages refusal placed)
        (ap (front_at pages) (sym same) ∙ ap (with_header pages) (sym read) ∙ ap (with_layout header) (sym placed)))

    pub front_found : (layout : Layout) → Ok layout ≡ sections_of header pages → IfSome told (λ helds. front_at pages (page_at helds) ≡ Ok (record { header = header; layout = layout }))
    front_found layout placed =
        IfSome_then told is (λ helds same. ap (front_at pages) (sym same) ∙ ap (with_header pages) (sym read) ∙ ap (with_layout header) (sym placed))

-- what refuses an index comes behind all its reads
pub fault_behind : {D X : Type 0} (faults : D → ℕ) (log : D → Option (List Read)) (reads : List DriveRead) (found : Result X (Dir × ℕ)) (refusal : Refusal) (olds news : List D)
    → IsFaultOf found refusal → AllRead faults log reads olds news → ReadUntil faults log reads refusal olds news
fault_behind faults log reads found Memory olds news is all = memory_behind faults log reads olds news all
fault_behind faults log reads found (BadIndex dir place) olds news is all = content_behind faults log reads (BadIndex dir place) olds news tt all
fault_behind faults log reads found refusal olds news is all = absurd is

pub fault-behind_labels : {X : Type 0} (found : Result X (Dir × ℕ)) (refusal : Refusal) → IsFaultOf found refusal → IsBehindLabels refusal
fault-behind_labels found Memory is = tt
fault-behind_labels found (BadIndex dir place) is = tt
fault-behind_labels found refusal is = absurd is

-- The reads of a closed cache as reads of numbered drives.
use Rattle.std.proofs.Common.{◌≡◌, ◌≢◌, ◌∙◌, ℕ, suc, ◌+◌, ◌<◌, ◌≤◌, Option, None, List, [], ◌∷◌, ◌++◌, length, map, refl, sym, ap, subst, arith}
use Rattle.std.proofs.lemmas.Bool.{eq-eqb, ne_eqb}
use Rattle.std.proofs.lemmas.List.{append-nil, length-append}
use Rattle.std.proofs.lemmas.List.Elements.{All-append, All-map, All-nil}
use Rattle.std.proofs.lemmas.List.FromFn.{get_or-range_with_len, length-range_with_len}
use Rattle.std.proofs.lemmas.List.Sums.{sum_by-append, sum_by-cons}
use Rattle.std.specs.List.{All, Contains, range_with_len, sum_by}
use Rattle.fg_base.specs.Told.{grown}
use Rattle.fg_build.specs.OnlyRead.{ReadsPages}
use Rattle.fg_cache.specs.Closing.{LogsGrewFrom, LogsTell, pages_read}
use Rattle.fg_cache.specs.Load.{IsAskedRead, StandsAt}
use Rattle.fg_cache.specs.Shelf.{stopped}
use Rattle.fg_cache.specs.Site.{Site, asked_pages}
use Rattle.fg_outside.specs.declared.drive.Read.{Read}
use Rattle.fg_outside.specs.Drives.{DriveRead, EachDriveFrom, LogsGrew, LogsGrewBy, own}
use Rattle.fg_outside.proofs.DriveLemmas.{own-append}
use Rattle.fg_stripe.specs.declared.layout.Layout.{Layout}
use Rattle.fg_stripe.specs.declared.layout.Place.{Place}
use Rattle.fg_stripe.specs.Striping.{drive_of, local_of, page_at, place_of}
use Rattle.fg_stripe.proofs.StripingLaws.{page_at-place_of}
use Rattle.fg_engine.specs.Told.{HasCountedReads}

-- the reads of one drive
abbrev of_drive : ℕ → List Read → List DriveRead
of_drive drive [] = []
of_drive drive (read ∷ reads) = record { drive = drive; read = read } ∷ of_drive drive reads

-- the reads of all drives, the first of which has the number `first`
abbrev of_drives : ℕ → List (List Read) → List DriveRead
of_drives first [] = []
of_drives first (more ∷ mores) = of_drive first more ++ of_drives (suc first) mores

own-same : (drive : ℕ) (reads : List Read) → own drive (of_drive drive reads) ≡ reads
own-same drive [] = refl
own-same drive (read ∷ reads) = rw (eq-eqb drive drive refl) (ap (λ (l : List Read). read ∷ l) (own-same drive reads))

own-other : (drive other : ℕ) (reads : List Read) → drive ≢ other → own other (of_drive drive reads) ≡ []
own-other drive other [] differs = refl
own-other drive other (read ∷ reads) differs = rw (ne_eqb drive other differs) (own-other drive other reads differs)

own-below : (first drive : ℕ) (mores : List (List Read)) → drive < first → own drive (of_drives first mores) ≡ []
own-below first drive [] below = refl
own-below first drive (more ∷ mores) below =
    own-append drive (of_drive first more) (of_drives (suc first) mores)
    ∙ ap (λ (l : List Read). l ++ own drive (of_drives (suc first) mores)) (own-other first drive more (λ same. omega (arith, same, below)))
    ∙ own-below (suc first) drive mores (omega (arith, below))

own-first : (first : ℕ) (more : List Read) (mores : List (List Read)) → own first (of_drives first (more ∷ mores)) ≡ more
own-first first more mores =
    own-append first (of_drive first more) (of_drives (suc first) mores)
    ∙ ap (λ (l : List Read). l ++ own first (of_drives (suc first) mores)) (own-same first more)
    ∙ ap (λ (l : List Read). more ++ l) (own-below (suc first) first mores (omega arith))
    ∙ append-nil more

own-later : (first drive : ℕ) (more : List Read) (mores : List (List Read)) → suc first ≤ drive → own drive (of_drives first (more ∷ mores)) ≡ own drive (of_drives (suc first) mores)
own-later first drive more mores behind =
    own-append drive (of_drive first more) (of_drives (suc first) mores)
    ∙ ap (λ (l : List Read). l ++ own drive (of_drives (suc first) mores)) (own-other first drive more (λ same. omega (arith, same, behind)))

length-of : (drive : ℕ) (reads : List Read) → length (of_drive drive reads) ≡ length reads
length-of drive [] = refl
length-of drive (read ∷ reads) = ap suc (length-of drive reads)

pages-of : (drive : ℕ) (reads : List Read) → sum_by (λ (one : DriveRead). one.read.count) (of_drive drive reads) ≡ pages_read reads
pages-of drive [] = refl
pages-of drive (read ∷ reads) =
    let one : DriveRead = record { drive = drive; read = read } in
    sum_by-cons (λ (one : DriveRead). one.read.count) one (of_drive drive reads)
    ∙ ap (λ (n : ℕ). read.count + n) (pages-of drive reads)
    ∙ sym (sum_by-cons (λ (read : Read). read.count) read reads)

-- as many reads and pages
length-all : (first : ℕ) (mores : List (List Read)) → length (of_drives first mores) ≡ sum_by (λ (more : List Read). length more) mores
length-all first [] = refl
length-all first (more ∷ mores) =
    length-append (of_drive first more) (of_drives (suc first) mores)
    ∙ ap (λ (n : ℕ). n + length (of_drives (suc first) mores)) (length-of first more)
    ∙ ap (λ (n : ℕ). length more + n) (length-all (suc first) mores)
    ∙ sym (sum_by-cons (λ (more : List Read). length more) more mores)

pages-all : (first : ℕ) (mores : List (List Read)) → sum_by (λ (one : DriveRead). one.read.count) (of_drives first mores) ≡ sum_by pages_read mores
pages-all first [] = refl
pages-all first (more ∷ mores) =
    let count : DriveRead → ℕ = λ one. one.read.count in
    sum_by-append count (of_drive first more) (of_drives (suc first) mores)
    ∙ ap (λ (n : ℕ). n + sum_by count (of_drives (suc first) mores)) (pages-of first more)
    ∙ ap (λ (n : ℕ). pages_read more + n) (pages-all (suc first) mores)
    ∙ sym (sum_by-cons pages_read more mores)

module _ {D : Type 0} (log : D → Option (List Read)) (site : Site) where
  grew-from : (first : ℕ) (mores : List (List Read)) (reads : List DriveRead) (olds news : List D)
      → ((drive : ℕ) → first ≤ drive → own drive reads ≡ own drive (of_drives first mores)) → LogsGrewFrom log site first mores olds news
      → EachDriveFrom first (λ drive old new. log new ≡ grown (log old) (own drive reads)) olds news
  grew-from first [] reads [] [] same grew = tt
  grew-from first [] reads [] (new ∷ news) same grew = absurd grew
  grew-from first [] reads (old ∷ olds) news same grew = absurd grew
  grew-from first (more ∷ mores) reads [] news same grew = absurd grew
  grew-from first (more ∷ mores) reads (old ∷ olds) [] same grew = absurd grew
  grew-from first (more ∷ mores) reads (old ∷ olds) (new ∷ news) same grew = (
    grew.1 ∙ ap (grown (log old)) (sym (same first (omega arith) ∙ own-first first more mores)),
    grew-from (suc first) mores reads olds news (λ drive behind. same drive (omega (arith, behind)) ∙ own-later first drive more mores behind) grew.2,
  )

  pub logs-grew : (mores : List (List Read)) (olds news : List D) → LogsGrewFrom log site 0 mores olds news → LogsGrew log (of_drives 0 mores) olds news
  logs-grew mores olds news grew = grew-from 0 mores (of_drives 0 mores) olds news (λ drive behind. refl) grew

  -- the logs tell what was counted, where no drive failed
  pub counted : (failed : Option ℕ) (reads pages : ℕ) (olds news : List D) → LogsTell log site failed reads pages olds news → failed ≡ None
      → HasCountedReads log reads pages olds news
  counted failed reads pages olds news tells none = record {
    all_reads = of_drives 0 tells.mores;
    grew = logs-grew tells.mores olds news tells.grew;
    reads_counted = tells.reads_counted none ∙ ap stopped (sym (length-all 0 tells.mores));
    pages_counted = tells.pages_counted none ∙ ap stopped (sym (pages-all 0 tells.mores));
  }

  each-of : (Q : DriveRead → Type 0) (drive : ℕ) (reads : List Read) → ((read : Read) → IsAskedRead site drive read → Q (record { drive = drive; read = read }))
      → All (IsAskedRead site drive) reads → All Q (of_drive drive reads)
  each-of Q drive reads is asked = subst (All Q) (sym (as-map reads)) (All-map Q tag reads (λ k d below. is _ (asked k d below)))
    where
      tag : Read → DriveRead
      tag read = record { drive = drive; read = read }

      as-map : (reads : List Read) → of_drive drive reads ≡ map tag reads
      as-map [] = refl
      as-map (read ∷ reads) = ap (λ (l : List DriveRead). tag read ∷ l) (as-map reads)

  all-of : (Q : DriveRead → Type 0) (count first : ℕ) (mores : List (List Read)) (olds news : List D) → first + length olds ≡ count
      → ((drive : ℕ) (read : Read) → drive < count → IsAskedRead site drive read → Q (record { drive = drive; read = read }))
      → LogsGrewFrom log site first mores olds news → All Q (of_drives first mores)
  all-of Q count first [] olds news many is grew = All-nil Q
  all-of Q count first (more ∷ mores) [] news many is grew = absurd grew
  all-of Q count first (more ∷ mores) (old ∷ olds) [] many is grew = absurd grew
  all-of Q count first (more ∷ mores) (old ∷ olds) (new ∷ news) many is grew =
      All-append Q (of_drive first more) (of_drives (suc first) mores) (each-of Q first more (λ read. is first read (omega (arith, many))) grew.0)
      (all-of Q count (suc first) mores olds news (omega (arith, many)) is grew.2)

  -- each read reads pages that may be asked for
  pub grew-by : (Q : DriveRead → Type 0) (count : ℕ) (failed : Option ℕ) (reads pages : ℕ) (olds news : List D) → length olds ≡ count
      → ((drive : ℕ) (read : Read) → drive < count → IsAskedRead site drive read → Q (record { drive = drive; read = read }))
      → LogsTell log site failed reads pages olds news → LogsGrewBy Q log olds news
  grew-by Q count failed reads pages olds news many is tells =
      (of_drives 0 tells.mores, all-of Q count 0 tells.mores olds news (omega (arith, many)) is tells.grew, logs-grew tells.mores olds news tells.grew)

-- A read of pages that may be asked for reads pages of the image at their places.
pub read-pages : (most : ℕ) (layout : Layout) (site : Site) (IsOne : ℕ → Type 0) (drive : ℕ) (read : Read) → site.layout ≡ layout → 0 < layout.drives → 0 < layout.unit
    → ((page : ℕ) → Contains (asked_pages site) page → IsOne page) → drive < layout.drives → 1 ≤ read.count → read.count ≤ most
    → ((local : ℕ) → read.first ≤ local → local < read.first + read.count → (page : ℕ) × StandsAt site drive page local)
    → ReadsPages most layout IsOne (record { drive = drive; read = read })
read-pages most layout site IsOne drive read same some_drives some_unit is below some few stands = record {
  own = below;
  behind_label = behind;
  some = some;
  few = few;
  at_place = All-map IsOne page_of (range_with_len read.first read.count) (λ k d within.
      let inside : k < read.count = omega (arith, within, length-range_with_len read.first read.count) in
      subst (λ (local : ℕ). IsOne (page_of local)) (sym (get_or-range_with_len read.first read.count k d inside)) (at (read.first + k) (omega arith) (omega (arith, inside))));
}
  where
    page_of : ℕ → ℕ
    page_of local = page_at (record { drive = drive; local = local }) layout.drives layout.unit

    behind : 1 ≤ read.first
    behind =
        let first = stands read.first (omega arith) (omega (arith, some)) in
        omega (arith, first.1.place)

    at : (local : ℕ) → read.first ≤ local → local < read.first + read.count → IsOne (page_of local)
    at local above within =
        let here = stands local above within in
        let place : place_of here.0 layout.drives layout.unit ≡ record { drive = drive; local = local } =
        subst (λ (l : Layout). place_of here.0 l.drives l.unit ≡ record { drive = drive; local = local }) same (same_place here.0 drive local here.1.own_drive here.1.place) in
        subst IsOne (sym (page_at-place_of layout.drives layout.unit some_drives some_unit here.0) ∙ ap (λ (place : Place). page_at place layout.drives layout.unit) place) (is here.0 here.1.asked)
      where
        same_place : (page drive local : ℕ) → drive_of page site.layout.drives site.layout.unit ≡ drive → local_of page site.layout.drives site.layout.unit ≡ local
            → place_of page site.layout.drives site.layout.unit ≡ record { drive = drive; local = local }
        same_place page drive local own at = rw (own, at) refl

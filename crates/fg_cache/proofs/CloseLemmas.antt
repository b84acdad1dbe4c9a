-- What the shelves of a closed cache tell of its drives.
use Rattle.std.proofs.Common.{◌≡◌, ◌∙◌, ℕ, ◌+◌, ◌<◌, suc, zero, true, false, Option, Some, None, List, [], ◌∷◌, length, map, get_or, All, refl, sym, subst, arith, inl, inr}
use Rattle.std.specs.List.{sum_by}
use Rattle.std.proofs.lemmas.Bool.{cases_Bool}
use Rattle.std.proofs.lemmas.List.Elements.{All-head, All-tail}
use Rattle.std.proofs.lemmas.List.Sums.{sum_by-cons}
use Rattle.fg_outside.specs.Drives.{EachDrive, RoseFirst, NoneRose}
use Rattle.fg_outside.specs.declared.drive.Read.{Read}
use Rattle.fg_cache.specs.Closing.{LeastRisen, LogsTell, RoseAt, LogsGrewFrom, pages_read}
use Rattle.fg_cache.specs.Gathering.{FitEach, first_risen, reads_of, pages_of}
use Rattle.fg_cache.specs.Load.{IsAskedRead}
use Rattle.fg_cache.specs.Names.{DriveLock}
use Rattle.fg_cache.specs.Shelf.{IsShelf, stopped}
use Rattle.fg_cache.specs.Site.{Site}
use Rattle.fg_cache.specs.Slips.{FaultOf}
use Rattle.fg_cache.specs.declared.shelf.Shelf.{Shelf}

module _ {D : Type 0} (held : D → Option (List ℕ)) (log : D → Option (List Read)) (told : D → ℕ) (room : D → Option ℕ) (faults : D → ℕ) where
  abbrev Fits : DriveLock D → Shelf D → Type 0
  Fits lock shelf = IsShelf held log told room faults lock 0 shelf

  abbrev olds : List (DriveLock D) → List D
  olds locks = map (λ (lock : DriveLock D). lock.opened) locks

  abbrev news : List (Shelf D) → List D
  news ends = map (λ (shelf : Shelf D). shelf.drive) ends

  pub each : (R : D → D → Type 0) → ((lock : DriveLock D) (shelf : Shelf D) → Fits lock shelf → R lock.opened shelf.drive) →
      (locks : List (DriveLock D)) (ends : List (Shelf D)) → FitEach Fits locks ends → EachDrive R (olds locks) (news ends)
  each R one [] [] fit = tt
  each R one (lock ∷ locks) (shelf ∷ ends) fit = (one lock shelf fit.0, each R one locks ends fit.1)
  each R one [] (shelf ∷ ends) fit = absurd fit
  each R one (lock ∷ locks) [] fit = absurd fit

  -- the locks are numbered, from this number on
  abbrev pub NumberedFrom : Site → ℕ → List (DriveLock D) → Type 0
  NumberedFrom site first [] = Unit {0}
  NumberedFrom site first (lock ∷ locks) = (lock.site ≡ site) × (lock.number ≡ first) × NumberedFrom site (suc first) locks

  -- the first that rose, by its place behind the first number
  abbrev LeastFrom : ℕ → Option ℕ → List D → List D → Type 0
  LeastFrom first None before after = NoneRose faults before after
  LeastFrom first (Some number) before after = (place : ℕ) × (number ≡ first + place) × RoseFirst faults place before after

  one_more : (first : ℕ) (least : Option ℕ) (old new : D) (before after : List D) → faults new ≡ faults old → LeastFrom (suc first) least before after →
      LeastFrom first least (old ∷ before) (new ∷ after)
  one_more first None old new before after same rest = (same, rest)
  one_more first (Some number) old new before after same rest =
      (suc rest.0, (let at : number ≡ first + suc rest.0 = omega (arith, rest.1) in at), (same, rest.2))

  pub least_from : (site : Site) (first : ℕ) (locks : List (DriveLock D)) (ends : List (Shelf D)) → NumberedFrom site first locks → FitEach Fits locks ends →
      LeastFrom first (first_risen ends) (olds locks) (news ends)
  least_from site first [] [] numbered fit = tt
  least_from site first (lock ∷ locks) (shelf ∷ ends) numbered fit =
      let rest = least_from site (suc first) locks ends numbered.2 fit.1 in
      let at : shelf.number ≡ first + 0 = fit.0.number ∙ numbered.1 ∙ (let none : first ≡ first + 0 = omega arith in none) in
      elim (cases_Bool shelf.rose) [
        | inl rose ↦ rw rose (0, at, fit.0.says.risen rose)
        | inr stood ↦ rw stood (one_more first (first_risen ends) lock.opened shelf.drive (olds locks) (news ends) (fit.0.says.stands stood) rest)
      ]
  least_from site first [] (shelf ∷ ends) numbered fit = absurd fit
  least_from site first (lock ∷ locks) [] numbered fit = absurd fit

  least_is : (least : Option ℕ) (before after : List D) → LeastFrom 0 least before after → LeastRisen faults least before after
  least_is None before after is = is
  least_is (Some number) before after is =
      let at : is.0 ≡ number = omega (arith, is.1) in subst (λ (n : ℕ). RoseFirst faults n before after) at is.2

  pub least_risen : (site : Site) (locks : List (DriveLock D)) (ends : List (Shelf D)) → NumberedFrom site 0 locks → FitEach Fits locks ends →
      LeastRisen faults (first_risen ends) (olds locks) (news ends)
  least_risen site locks ends numbered fit = least_is (first_risen ends) (olds locks) (news ends) (least_from site 0 locks ends numbered fit)

  -- a share that names one of these drives names one that rose
  pub rose_at : (site : Site) (first place : ℕ) (share : FaultOf) (locks : List (DriveLock D)) (ends : List (Shelf D)) → NumberedFrom site first locks → FitEach Fits locks ends →
      All (λ (shelf : Shelf D). share.drive ≡ shelf.number → shelf.rose ≡ true) ends → share.drive ≡ first + place → place < length locks →
      RoseAt faults place (olds locks) (news ends)
  rose_at site first place share [] ends numbered fit risen at within = absurd (omega (arith, within))
  rose_at site first place share (lock ∷ locks) [] numbered fit risen at within = absurd fit
  rose_at site first zero share (lock ∷ locks) (shelf ∷ ends) numbered fit risen at within =
      fit.0.says.risen (All-head (λ (shelf : Shelf D). share.drive ≡ shelf.number → shelf.rose ≡ true) shelf ends risen (at ∙ (let none : first + 0 ≡ first = omega arith in none) ∙ sym numbered.1 ∙ sym fit.0.number))
  rose_at site first (suc place) share (lock ∷ locks) (shelf ∷ ends) numbered fit risen at within =
      rose_at site (suc first) place share locks ends numbered.2 fit.1 (All-tail (λ (shelf : Shelf D). share.drive ≡ shelf.number → shelf.rose ≡ true) shelf ends risen) (at ∙ (let next : first + suc place ≡ suc first + place = omega arith in next)) (omega (arith, within))

  -- the logs
  pub record LogsFrom (site : Site) (first : ℕ) (locks : List (DriveLock D)) (ends : List (Shelf D)) : Type 0 where
    pub mores : List (List Read)
    pub grew : LogsGrewFrom log site first mores (olds locks) (news ends)
    pub reads_counted : first_risen ends ≡ None → stopped (reads_of ends) ≡ stopped (sum_by (λ (more : List Read). length more) mores)
    pub pages_counted : first_risen ends ≡ None → stopped (pages_of ends) ≡ stopped (sum_by pages_read mores)

  stood_first : (shelf : Shelf D) (ends : List (Shelf D)) → first_risen (shelf ∷ ends) ≡ None → (shelf.rose ≡ false) × (first_risen ends ≡ None)
  stood_first shelf ends none = elim (cases_Bool shelf.rose) [
    | inl rose ↦ absurd (let e : Some shelf.number ≡ None = rw rose at none in let no_way : ⊥ = cc in no_way)
    | inr stood ↦ (stood, rw stood at none)
  ]

  pub logs_from : (site : Site) (first : ℕ) (locks : List (DriveLock D)) (ends : List (Shelf D)) → NumberedFrom site first locks → FitEach Fits locks ends → LogsFrom site first locks ends
  logs_from site first [] [] numbered fit = record { mores = []; grew = tt; reads_counted = λ _. refl; pages_counted = λ _. refl }
  logs_from site first (lock ∷ locks) (shelf ∷ ends) numbered fit =
      let rest = logs_from site (suc first) locks ends numbered.2 fit.1 in
      let own = fit.0.grew in
      record {
        mores = own.more ∷ rest.mores;
        grew = (subst (λ (s : Site). All (IsAskedRead s first) own.more) numbered.0 (subst (λ (n : ℕ). All (IsAskedRead lock.site n) own.more) numbered.1 own.asked), own.longer, rest.grew);
        reads_counted = λ none.
            let both = stood_first shelf ends none in
            let one = own.reads_counted both.0 in
            let more = rest.reads_counted both.1 in
            let left = sum_by-cons (λ (s : Shelf D). s.reads) shelf ends in
            let right = sum_by-cons (λ (m : List Read). length m) own.more rest.mores in
            rw (left, right) (add_stopped shelf.reads (length own.more) (reads_of ends) (sum_by (λ (m : List Read). length m) rest.mores) one more);
        pages_counted = λ none.
            let both = stood_first shelf ends none in
            let one = own.pages_counted both.0 in
            let more = rest.pages_counted both.1 in
            let left = sum_by-cons (λ (s : Shelf D). s.pages) shelf ends in
            let right = sum_by-cons pages_read own.more rest.mores in
            rw (left, right) (add_stopped shelf.pages (pages_read own.more) (pages_of ends) (sum_by pages_read rest.mores) one more);
      }
    where
      add_stopped : (a b c d : ℕ) → a ≡ stopped b → stopped c ≡ stopped d → stopped (a + c) ≡ stopped (b + d)
      add_stopped a b c d one more = omega (arith, one, more)
  logs_from site first [] (shelf ∷ ends) numbered fit = absurd fit
  logs_from site first (lock ∷ locks) [] numbered fit = absurd fit

  -- locks that are named by their places are numbered
  pub numbered_from : (site : Site) (first : ℕ) (locks : List (DriveLock D)) →
      ((k : ℕ) (d : DriveLock D) → k < length locks → ((get_or locks k d).site ≡ site) × ((get_or locks k d).number ≡ first + k)) → NumberedFrom site first locks
  numbered_from site first [] are = tt
  numbered_from site first (lock ∷ locks) are =
      let here = are 0 lock (omega arith) in (
        here.0,
        here.1 ∙ (let none : first + 0 ≡ first = omega arith in none),
        numbered_from site (suc first) locks (λ k d h.
            let there = are (suc k) d (omega (arith, h)) in
            (there.0, there.1 ∙ (let next : first + suc k ≡ suc first + k = omega arith in next))),
      )

  -- as many shelves as locks
  pub fit_length : (locks : List (DriveLock D)) (ends : List (Shelf D)) → FitEach Fits locks ends → length ends ≡ length locks
  fit_length [] [] fit = refl
  fit_length (lock ∷ locks) (shelf ∷ ends) fit = let rest = fit_length locks ends fit.1 in omega (arith, rest)
  fit_length [] (shelf ∷ ends) fit = absurd fit
  fit_length (lock ∷ locks) [] fit = absurd fit

  pub logs_tell : (site : Site) (locks : List (DriveLock D)) (ends : List (Shelf D)) → NumberedFrom site 0 locks → FitEach Fits locks ends →
      LogsTell log site (first_risen ends) (stopped (reads_of ends)) (stopped (pages_of ends)) (olds locks) (news ends)
  logs_tell site locks ends numbered fit =
      let from = logs_from site 0 locks ends numbered fit in
      record { mores = from.mores; grew = from.grew; reads_counted = from.reads_counted; pages_counted = from.pages_counted }

-- One more shelf is gathered.
use Rattle.std.proofs.Common.{◌≡◌, ◌++◌, ◌∙◌, ℕ, ◌+◌, ◌≤◌, Bool, true, false, Option, Some, None, List, [], ◌∷◌, length, map, refl, sym, ap, subst, arith, if◌then◌else◌}
use Rattle.std.proofs.lemmas.Int.{ints}
use Rattle.std.proofs.lemmas.List.{append-nil, append_assoc, reverse-append}
use Rattle.std.proofs.lemmas.List.Elements.{All-cons}
use Rattle.std.proofs.lemmas.List.Sums.{sum_by-cons}
use Rattle.fg_books.specs.Shares.{BooksId}
use Rattle.fg_outside.specs.declared.drive.Read.{Read}
use Rattle.fg_cache.specs.Gathering.{FitEach, Gathers, GathersFrom, NamesRisen}
use Rattle.fg_cache.specs.Names.{DriveLock}
use Rattle.fg_cache.specs.Share.{Four, joined}
use Rattle.fg_cache.specs.Shelf.{IsShelf, stopped}
use Rattle.fg_cache.specs.Slips.{FaultOf}
use Rattle.fg_cache.specs.declared.gathering.Gathered.{Gathered}
use Rattle.fg_cache.specs.declared.shelf.Shelf.{Shelf}

-- what was gathered so far, from the locks behind those that are left
pub record Sofar {D : Type 0} (fits : DriveLock D → Shelf D → Type 0) (books : BooksId) (before : Four) (shares : List FaultOf)
    (locks left : List (DriveLock D)) (drives : List D) (after : Four) (failed : Option ℕ) (reads pages : ℕ) : Type 0 where
  pub done : List (DriveLock D)
  pub ends : List (Shelf D)
  pub split : left ++ done ≡ locks
  pub fit : FitEach fits done ends
  pub from_them : GathersFrom books before shares ends drives after failed reads pages

-- nothing was gathered yet
pub start : {D : Type 0} (fits : DriveLock D → Shelf D → Type 0) (books : BooksId) (before : Four) (shares : List FaultOf) (locks : List (DriveLock D)) →
    before.books ≡ books → Sofar fits books before shares locks locks [] before None 0 0
start fits books before shares locks own = record {
  done = [];
  ends = [];
  split = append-nil locks;
  fit = tt;
  from_them = record {
    drives_back = refl;
    least = refl;
    all_reads = omega arith;
    all_pages = omega arith;
    own = own;
    parts = omega arith;
    pushes = refl;
    repairs = refl;
    takes = omega (arith, ints);
    entries = λ _. refl;
    named = λ k d h. absurd (omega (arith, h));
  };
}

-- the least that failed, with one more before it
more_failed : (rose : Bool) (number : ℕ) (failed : Option ℕ) → (if◌then◌else◌ {A = Option ℕ} rose (Some number) failed) ≡ None → (rose ≡ false) × (failed ≡ None)
more_failed true number failed none = absurd (let no_way : ⊥ = cc in no_way)
more_failed false number failed none = (refl, none)

module _ {D : Type 0} (held : D → Option (List ℕ)) (log : D → Option (List Read)) (told : D → ℕ) (room : D → Option ℕ) (faults : D → ℕ) where
  abbrev Fits : DriveLock D → Shelf D → Type 0
  Fits lock shelf = IsShelf held log told room faults lock 0 shelf

  pub next : (books : BooksId) (before : Four) (shares : List FaultOf) (locks old left : List (DriveLock D)) (lock : DriveLock D) (shelf : Shelf D)
      (drives : List D) (after : Four) (failed : Option ℕ) (reads pages : ℕ) → Sofar Fits books before shares locks old drives after failed reads pages →
      old ≡ left ++ lock ∷ [] → Fits lock shelf → NamesRisen shares shelf →
      Sofar Fits books before shares locks left (drives ++ shelf.drive ∷ []) (joined after shelf.share) (if shelf.rose then Some shelf.number else failed)
      (stopped (reads + shelf.reads)) (stopped (pages + shelf.pages))
  next books before shares locks old left lock shelf drives after failed reads pages so_far is fit risen =
      let from = so_far.from_them in
      let more_reads = sum_by-cons (λ (s : Shelf D). s.reads) shelf so_far.ends in
      let more_pages = sum_by-cons (λ (s : Shelf D). s.pages) shelf so_far.ends in
      let less : shelf.pages ≤ fit.taken = omega (arith, fit.counted) in
      record {
        done = lock ∷ so_far.done;
        ends = shelf ∷ so_far.ends;
        split = sym (append_assoc left (lock ∷ []) so_far.done) ∙ ap (λ l. l ++ so_far.done) (sym is) ∙ so_far.split;
        fit = (fit, so_far.fit);
        from_them = record {
          drives_back = ap (λ l. l ++ shelf.drive ∷ []) from.drives_back
              ∙ sym (reverse-append (shelf.drive ∷ []) (map (λ (s : Shelf D). s.drive) so_far.ends));
          least = ap (λ (l : Option ℕ). if shelf.rose then Some shelf.number else l) from.least;
          all_reads = rw more_reads (omega (arith, from.all_reads));
          all_pages = rw more_pages (omega (arith, from.all_pages));
          own = from.own;
          parts = omega (arith, from.parts, fit.parts);
          pushes = omega (arith, ints, from.pushes, fit.pushes);
          repairs = omega (arith, ints, from.repairs, fit.repairs);
          takes = omega (arith, ints, from.takes, fit.takes, less, more_pages);
          entries = λ none.
              let both = more_failed shelf.rose shelf.number failed none in
              let had = from.entries both.1 in
              let none_given = fit.entries both.0 in
              omega (arith, ints, had, none_given);
          named = All-cons (NamesRisen shares) shelf so_far.ends risen from.named;
        };
      }

-- a list of no items
pub no_items : {X : Type 0} (xs : List X) → length xs ≡ 0 → xs ≡ []
no_items [] none = refl
no_items (x ∷ xs) none = absurd (omega (arith, none))

-- all is gathered
pub all_gathered : {D : Type 0} (fits : DriveLock D → Shelf D → Type 0) (books : BooksId) (before : Four) (shares : List FaultOf) (locks left : List (DriveLock D))
    (all : Gathered D) →
    Sofar fits books before shares locks left all.drives.items all.share all.failed all.reads all.pages → left ≡ [] → Gathers fits books before shares locks all
all_gathered {D} fits books before shares locks left all so_far none = record {
  ends = so_far.ends;
  fit = subst (λ (l : List (DriveLock D)). FitEach fits l so_far.ends) (ap (λ (l : List (DriveLock D)). l ++ so_far.done) (sym none) ∙ so_far.split) so_far.fit;
  from_them = so_far.from_them;
}

-- What a read makes of a drive's shelf.
use Rattle.std.proofs.Common.{◌≡◌, ◌++◌, ◌∙◌, ℕ, ◌+◌, ◌-◌, ◌<◌, ◌≤◌, suc, zero, true, Option, Some, None, IfSome, IsSome, List, [], ◌∷◌, length, get_or, take, All, refl, sym, ap, subst, arith, inl, inr, pos}
use Rattle.std.proofs.lemmas.Bool.{both_ways, cases_Bool}
use Rattle.std.proofs.lemmas.List.{length_push, length-take}
use Rattle.std.proofs.lemmas.List.Elements.{All-push, All-append, All-cons}
use Rattle.std.proofs.lemmas.List.Sums.{sum_by_push}
use Rattle.fg_base.specs.Faults.{Rose}
use Rattle.fg_base.specs.Told.{grown, GrewByFirst}
use Rattle.fg_base.proofs.FaultLemmas.{rose_and_later}
use Rattle.fg_base.proofs.ToldLemmas.{grown-grown}
use Rattle.fg_books.specs.Shares.{Holding, parts_of}
use Rattle.fg_outside.specs.Log.{read_of}
use Rattle.fg_outside.specs.declared.drive.Read.{Read}
use Rattle.fg_queue.specs.LoadRun.{AreConsecutive, no_load}
use Rattle.fg_queue.specs.declared.load.Load.{Load}
use Rattle.fg_stripe.specs.Held.{page_of}
use Rattle.fg_cache.specs.Closing.{pages_read}
use Rattle.fg_cache.specs.Load.{IsLoad, IsAskedRead, StandsAt}
use Rattle.fg_cache.specs.Names.{DriveLock}
use Rattle.fg_cache.specs.Shelf.{IsShelf, HasPages, HoldsPages, TellsPages, StaysAs, stopped}
use Rattle.fg_cache.specs.Site.{Site}
use Rattle.fg_cache.specs.declared.shelf.Shelf.{Shelf}
use Rattle.fg_cache.proofs.SiteLemmas.{asked_below}

-- ---- the loads of a run

module _ (site : Site) (drive first : ℕ) (loads : List Load) (are : All (IsLoad site drive) loads) (follow : AreConsecutive first loads) where
  -- a run's read is of pages that may be asked for
  pub asked_read : 1 ≤ length loads → length loads ≤ 32 → IsAskedRead site drive (read_of first (length loads))
  asked_read some few = record { some = some; few = few; at_place = stands_at }
    where
      stands_at : (local : ℕ) → first ≤ local → local < first + length loads → (page : ℕ) × StandsAt site drive page local
      stands_at local above below =
          let k : ℕ = local - first in
          let within : local - first < length loads = omega arith in
          let load : Load = get_or loads (local - first) no_load in
          let place : load.local ≡ local = follow (local - first) no_load within ∙ (let back : first + (local - first) ≡ local = omega arith in back) in
          (load.page, subst (λ (at : ℕ). StandsAt site drive load.page at) place (are (local - first) no_load within).stands)

  -- and the drive told that it has them
  pub run_told : (told : ℕ) → 0 < length loads → TellsPages site.layout drive told → first + length loads ≤ told
  run_told told some tells =
      let within : length loads - 1 < length loads = omega arith in
      let load : Load = get_or loads (length loads - 1) no_load in
      let stands = (are (length loads - 1) no_load within).stands in
      let place = follow (length loads - 1) no_load within in
      let below = tells load.page (asked_below site load.page stands.asked) stands.own_drive in
      omega (arith, below, place, stands.place, some)

  -- the pages that were read are the image's
  pub run_pages : (image : Option (List (List ℕ))) (held : Option (List ℕ)) (buffer : List ℕ) → HoldsPages image site.layout drive held →
      IfSome held (λ bytes. (k : ℕ) → k < length loads → page_of buffer k ≡ page_of bytes (first + k)) → HasPages image buffer loads
  run_pages None held buffer holds read = λ k d h. tt
  run_pages (Some pages) None buffer holds read = absurd holds
  run_pages (Some pages) (Some bytes) buffer holds read = λ k d h.
      let load : Load = get_or loads k d in
      let stands = (are k d h).stands in
      let place : first + k ≡ _ = sym (follow k d h) ∙ sym stands.place in
      holds load.page (asked_below site load.page stands.asked) stands.own_drive ∙ ap Some (sym (read k h ∙ ap (page_of bytes) place))

-- ---- the shelf after a read

all_first : {X : Type 0} (P : X → Type 0) (x : X) → P x → (k : ℕ) → All P (take k (x ∷ []))
all_first {X} P x is zero = λ k d h. absurd (omega (arith, h))
all_first {X} P x is (suc n) = All-cons P x (take n []) is (λ k d h. absurd (omega (arith, h, length-take {A = X} n [])))

module _ {D : Type 0} (held : D → Option (List ℕ)) (log : D → Option (List Read)) (told : D → ℕ) (room : D → Option ℕ) (faults : D → ℕ)
    (name : DriveLock D) (old : Shelf D) (drive : D) (buffer : List ℕ) (count : ℕ) (read : Read)
    (fits : IsShelf held log told room faults name count old) (asked : IsAskedRead name.site name.number read)
    (same_held : held drive ≡ held old.drive) (same_told : told drive ≡ told old.drive) (same_room : room drive ≡ room old.drive) where
  stays : StaysAs held told room name.opened drive
  stays = record {
    same_held = same_held ∙ fits.stays.same_held;
    same_told = same_told ∙ fits.stays.same_told;
    same_room = same_room ∙ fits.stays.same_room;
  }

  stopped-twice : (n m : ℕ) → stopped (stopped n + m) ≡ stopped (n + m)
  stopped-twice n m = omega arith

  pub keeps_read : (reads pages : ℕ) → log drive ≡ grown (log old.drive) (read ∷ []) → faults drive ≡ faults old.drive → read.count ≡ count →
      reads ≡ stopped (old.reads + 1) → pages ≡ stopped (old.pages + count) →
      IsShelf held log told room faults name 0 (record old { drive = drive; buffer = buffer; reads = reads; pages = pages })
  keeps_read reads pages longer same_faults long more_reads more_pages =
      let grew = fits.grew in
      let all : List Read = grew.more ++ read ∷ [] in
      record {
        stocked = fits.stocked;
        number = fits.number;
        within = fits.within;
        stays = stays;
        says = record {
          stands = λ rose. same_faults ∙ fits.says.stands rose;
          risen = λ rose. rw same_faults (fits.says.risen rose);
          sure = fits.says.sure;
        };
        grew = record {
          more = grew.more ++ read ∷ [];
          asked = All-push (IsAskedRead name.site name.number) grew.more read grew.asked asked;
          longer = longer ∙ ap (λ l. grown l (read ∷ [])) grew.longer ∙ grown-grown (log name.opened) grew.more (read ∷ []);
          reads_counted = λ rose. more_reads ∙ ap (λ (n : ℕ). stopped (n + 1)) (grew.reads_counted rose) ∙ stopped-twice (length grew.more) 1
              ∙ ap stopped (sym (length_push grew.more read));
          pages_counted = λ rose. more_pages ∙ ap (λ (n : ℕ). stopped (n + count)) (grew.pages_counted rose) ∙ stopped-twice (pages_read grew.more) count
              ∙ ap stopped (ap (λ (n : ℕ). pages_read grew.more + n) (sym long) ∙ sym (sum_by_push (λ (r : Read). r.count) grew.more read));
        };
        books = fits.books;
        parts = fits.parts;
        fault_books = fits.fault_books;
        fault_parts = fits.fault_parts;
        fault_amount = fits.fault_amount;
        pushes = fits.pushes;
        repairs = fits.repairs;
        taken = fits.taken + count;
        takes = fits.takes ∙ ap pos (let same : fits.taken + count ≡ fits.taken + count + 0 = omega arith in same);
        counted = more_pages ∙ ap (λ (n : ℕ). stopped (n + count)) fits.counted ∙ stopped-twice fits.taken count;
        entries = fits.entries;
        spare = fits.spare;
      }

  rises : Rose (faults old.drive) (faults drive) → faults old.drive ≤ faults drive → Rose (faults name.opened) (faults drive)
  rises rose later = elim (cases_Bool old.rose) [
    | inl risen ↦ rose_and_later (faults name.opened) (faults old.drive) (faults drive) (fits.says.risen risen) later
    | inr stood ↦ rw (← fits.says.stands stood) rose
  ]

  pub keeps_failed : (lot : Holding) (reads pages : ℕ) → GrewByFirst (read ∷ []) (log old.drive) (log drive) →
      Rose (faults old.drive) (faults drive) → faults old.drive ≤ faults drive → (IsSome (room old.drive) → ⊥) →
      lot.books ≡ old.faults.books → parts_of lot old.number ≡ parts_of old.faults old.number → pages ≡ stopped (old.pages + count) →
      IsShelf held log told room faults name 0 (record old { drive = drive; buffer = buffer; faults = lot; rose = true; reads = reads; pages = pages })
  keeps_failed lot reads pages longer rose later unsure own parts more_pages =
      let grew = fits.grew in
      record {
        stocked = fits.stocked;
        number = fits.number;
        within = fits.within;
        stays = stays;
        says = record {
          stands = λ stood. absurd (both_ways true stood refl);
          risen = λ _. rises rose later;
          sure = λ told_room. absurd (unsure (rw fits.stays.same_room told_room));
        };
        grew = record {
          more = grew.more ++ take longer.0 (read ∷ []);
          asked = All-append (IsAskedRead name.site name.number) grew.more (take longer.0 (read ∷ [])) grew.asked (all_first (IsAskedRead name.site name.number) read asked longer.0);
          longer = longer.1 ∙ ap (λ l. grown l (take longer.0 (read ∷ []))) grew.longer ∙ grown-grown (log name.opened) grew.more (take longer.0 (read ∷ []));
          reads_counted = λ stood. absurd (both_ways true stood refl);
          pages_counted = λ stood. absurd (both_ways true stood refl);
        };
        books = fits.books;
        parts = fits.parts;
        fault_books = own ∙ fits.fault_books;
        fault_parts = rw (← fits.number) (parts ∙ rw fits.number fits.fault_parts);
        fault_amount = λ stood. absurd (both_ways true stood refl);
        pushes = fits.pushes;
        repairs = fits.repairs;
        taken = fits.taken + count;
        takes = fits.takes ∙ ap pos (let same : fits.taken + count ≡ fits.taken + count + 0 = omega arith in same);
        counted = more_pages ∙ ap (λ (n : ℕ). stopped (n + count)) fits.counted ∙ stopped-twice fits.taken count;
        entries = λ stood. absurd (both_ways true stood refl);
        spare = fits.spare;
      }

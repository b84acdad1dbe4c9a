-- The first value of a drive's lock.
use Rattle.std.proofs.Common.{◌≡◌, ◌++◌, ◌∙◌, ℕ, ◌<◌, false, Option, Some, List, [], ◌∷◌, length, map, refl, sym, ap, arith, inl, pos}
use Rattle.std.specs.Prelude.{reverse}
use Rattle.std.proofs.lemmas.Bool.{false≢true}
use Rattle.std.proofs.lemmas.List.{append-nil, append_assoc, map-append, reverse-append}
use Rattle.fg_base.proofs.ToldLemmas.{grown-nil}
use Rattle.fg_base.specs.declared.limits.TheConstants.{NO_PAGE}
use Rattle.fg_books.specs.Shares.{Holding, parts_of, amount_of}
use Rattle.fg_cell.specs.Pages.{Page}
use Rattle.fg_outside.specs.declared.drive.Read.{Read}
use Rattle.fg_cache.specs.Names.{DriveLock}
use Rattle.fg_cache.specs.Share.{Four, idle}
use Rattle.fg_cache.specs.Shelf.{IsShelf, IsStocked}

module _ {D : Type 0} (held : D → Option (List ℕ)) (log : D → Option (List Read)) (told : D → ℕ) (room : D → Option ℕ) (faults : D → ℕ) where
  pub new_shelf : (name : DriveLock D) (buffer : List ℕ) (spare : Page) (share : Four) (lot : Holding) →
      IsStocked held told name.site.image name.site.layout name.number name.opened → name.number < name.site.books.plan.loose →
      share ≡ idle name.site.books 1 → lot.books ≡ name.site.books → parts_of lot name.number ≡ name.site.books.plan.parts → amount_of lot name.number ≡ pos 0 →
      spare.number ≡ NO_PAGE →
      IsShelf held log told room faults name 0 (record {
        drive = name.opened;
        number = name.number;
        buffer = buffer;
        spare = Some spare;
        share = share;
        faults = lot;
        rose = false;
        reads = 0;
        pages = 0;
      })
  new_shelf name buffer spare share lot stocked within idle_share own parts amount blank = rw idle_share (record {
    stocked = stocked;
    number = refl;
    within = within;
    stays = record { same_held = refl; same_told = refl; same_room = refl };
    says = record { stands = λ _. refl; risen = λ rose. absurd (false≢true rose); sure = λ _. refl };
    grew = record {
      more = [];
      asked = λ k d h. absurd (omega (arith, h));
      longer = sym (grown-nil (log name.opened));
      reads_counted = λ _. omega arith;
      pages_counted = λ _. omega arith;
    };
    books = refl;
    parts = refl;
    fault_books = own;
    fault_parts = parts;
    fault_amount = λ _. amount;
    pushes = refl;
    repairs = refl;
    taken = 0;
    takes = refl;
    counted = omega arith;
    entries = λ _. refl;
    spare = inl blank;
  })

-- The last of the drives that are left, turned round, is the first.
pub reverse-popped : {X : Type 0} (xs ys : List X) (x : X) → xs ≡ ys ++ x ∷ [] → reverse xs ≡ x ∷ reverse ys
reverse-popped xs ys x is = ap reverse is ∙ reverse-append ys (x ∷ [])

-- one more has moved
pub one_moved : {X Y : Type 0} (f : X → Y) (locks : List X) (lock : X) (drive : Y) (old left all : List Y) →
    f lock ≡ drive → old ≡ left ++ drive ∷ [] → map f locks ++ reverse old ≡ all → map f (locks ++ lock ∷ []) ++ reverse left ≡ all
one_moved f locks lock drive old left all same is moved =
    ap (λ l. l ++ reverse left) (map-append f locks (lock ∷ [])) ∙ append_assoc (map f locks) (f lock ∷ []) (reverse left)
    ∙ ap (λ (d : _). map f locks ++ d ∷ reverse left) same ∙ ap (λ l. map f locks ++ l) (sym (reverse-popped old left drive is)) ∙ moved

-- all have moved
pub all_moved : {Y : Type 0} (moved left all : List Y) → moved ++ reverse left ≡ all → length left ≡ 0 → moved ≡ all
all_moved moved [] all is none = sym (append-nil moved) ∙ is
all_moved moved (y ∷ left) all is none = absurd (omega (arith, none))

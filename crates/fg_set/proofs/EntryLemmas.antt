-- The tests of an entry, and the entries of a list that pass one.
use Rattle.std.proofs.Common.{◌≡◌, ◌∙◌, ℕ, ◌<◌, Bool, true, false, not, Some, None, List, length, get_or, refl, sym, ap, arith, inl, inr}
use Rattle.std.specs.List.{position, position_or_len}
use Rattle.std.specs.Bool.{nat_lt}
use Rattle.std.proofs.lemmas.Bool.{cases_Bool, cond-true, ltb-false, eqb-true, false≢true, and_parts, not-true}
use Rattle.std.proofs.lemmas.List.Sums.{fails_before_first}
use Rattle.fg_set.specs.Change.{SameHold}
use Rattle.fg_set.specs.Entry.{page_of, is_free, passed, is_pinned, is_state_empty, is_state_filled, is_state_loading, is_state_ready, page_in}
use Rattle.fg_set.specs.declared.entry.Entry.{Entry}
use Rattle.fg_set.specs.declared.entry.EntryState.{EntryState}
use Rattle.fg_set.specs.declared.entry.EntryState.TheVariants.{Empty, Loading, Ready}

-- where no place was found, every element fails
pub position-None : {X : Type 0} (p : X → Bool) (xs : List X) (i : ℕ) (d : X) → position p xs ≡ None → i < length xs → p (get_or xs i d) ≡ false
position-None p xs i d none h =
    elim (cases_Bool (nat_lt (position_or_len p xs) (length xs))) [
      | inl found ↦ absurd (some_none (sym (cond-true _ _ _ found) ∙ none))
      | inr over ↦ fails_before_first p xs i d (omega (arith, ltb-false _ _ over, h))
    ]
  where
    some_none : {X : Type 0} {x : X} → Some x ≡ None → ⊥
    some_none e = cc

-- ---- the tests of a state

pub ready_state : (page : ℕ) (s : EntryState) → is_state_ready page s ≡ true → s ≡ Ready page
ready_state page Empty h = absurd (false≢true h)
ready_state page (Loading p) h = absurd (false≢true h)
ready_state page (Ready p) h = ap Ready (eqb-true p page h)

pub loading_state : (page : ℕ) (s : EntryState) → is_state_loading page s ≡ true → s ≡ Loading page
loading_state page Empty h = absurd (false≢true h)
loading_state page (Loading p) h = ap Loading (eqb-true p page h)
loading_state page (Ready p) h = absurd (false≢true h)

pub empty_state : (s : EntryState) → is_state_empty s ≡ true → s ≡ Empty
empty_state Empty h = refl
empty_state (Loading p) h = absurd (false≢true h)
empty_state (Ready p) h = absurd (false≢true h)

-- ---- entries that hold the same

pub same-refl : (e : Entry) → SameHold e e
same-refl e = record { state = refl; pins = refl }

pub same-trans : {a b c : Entry} → SameHold a b → SameHold b c → SameHold a c
same-trans p q = record { state = q.state ∙ p.state; pins = q.pins ∙ p.pins }

-- a test of state and pins alone answers the same of both
pub is_free-same : {a b : Entry} → SameHold a b → is_free b ≡ is_free a
is_free-same h = rw (h.state, h.pins)

pub page_of-same : {a b : Entry} → SameHold a b → page_of b ≡ page_of a
page_of-same h = ap page_in h.state

pub passed-same : (e : Entry) → SameHold e (passed e)
passed-same e = record { state = refl; pins = refl }

-- a free entry is ready, and has no pin
pub free_parts : (e : Entry) → is_free e ≡ true → (is_state_filled e.state ≡ true) × (is_pinned e ≡ false)
free_parts e h =
    let parts = and_parts (is_state_filled e.state) (not (is_pinned e)) h in
    (parts.0, not-true (is_pinned e) parts.1)

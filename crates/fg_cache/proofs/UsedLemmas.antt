-- How many entries of a page set are in use, before and after each call.
use Rattle.std.proofs.Common.{◌≡◌, ◌∙◌, ℕ, ◌+◌, ◌<◌, ◌≤◌, suc, zero, true, false, Some, List, ◌∷◌, length, get_or, map, All, refl, sym, ap, arith, inl, inr}
use Rattle.std.specs.List.{Contains, list_any}
use Rattle.std.proofs.lemmas.Bool.{cases_Bool, both_ways, false_from_ne_true}
use Rattle.std.proofs.lemmas.List.{get_or_default, get_or-map, length-map}
use Rattle.std.proofs.lemmas.List.Folds.{Any-from_list_any, list_any_at}
use Rattle.std.proofs.lemmas.List.Sums.{sum_by-set}
use Rattle.fg_set.specs.Change.{StartsLoad}
use Rattle.fg_set.specs.Entry.{blank, page_of, is_empty, is_state_empty, loading, page_in}
use Rattle.fg_set.specs.PageSet.{PageSet, IsSound, ways_of, entry_at, with_entry}
use Rattle.fg_set.specs.Slips.{IsListed}
use Rattle.fg_set.specs.declared.entry.Entry.{Entry}
use Rattle.fg_set.specs.declared.entry.EntryState.{EntryState}
use Rattle.fg_set.specs.declared.entry.EntryState.TheVariants.{Empty, Loading, Ready}
use Rattle.fg_set.proofs.SoundLemmas.{listed}
use Rattle.fg_cache.specs.SetDesk.{uses, used_of}
use Rattle.fg_cache.proofs.CountLemmas.{Apart, apart_from, no_more_than}

pub used-with_entry : (set : PageSet) (frame : ℕ) (entry : Entry) → frame < ways_of set →
    used_of (with_entry set frame entry) + uses (entry_at set frame) ≡ used_of set + uses entry
used-with_entry set frame entry within = sum_by-set uses set.entries frame entry blank within

-- the page of an entry that isn't empty
abbrev pub number_in : EntryState → ℕ
number_in Empty = 0
number_in (Loading page) = page
number_in (Ready page) = page

abbrev pub number_of : Entry → ℕ
number_of entry = number_in entry.state

pub numbered : (state : EntryState) → is_state_empty state ≡ false → page_in state ≡ Some (number_in state)
numbered Empty full = absurd (both_ways true full refl)
numbered (Loading page) full = refl
numbered (Ready page) full = refl

-- a set that has a way for each page that it may list has an empty entry, as long as one of them isn't listed
pub room_left : (own : List ℕ) (page : ℕ) (set : PageSet) → IsSound set →
    ((frame listed_page : ℕ) → page_of (entry_at set frame) ≡ Some listed_page → Contains own listed_page) →
    ¬ IsListed set page → Contains own page → length own ≤ ways_of set →
    (k : ℕ) × (k < ways_of set) × (is_empty (entry_at set k) ≡ true)
room_left own page set sound lists unlisted has few =
    elim (cases_Bool (list_any is_empty set.entries)) [
      | inl some ↦
          let found = Any-from_list_any is_empty set.entries some in
          let at : entry_at set found.0 ≡ found.1 = get_or_default set.entries found.0 blank found.1 found.2 ∙ found.3 in
          (found.0, found.2, rw at found.4)
      | inr none ↦ absurd (too_many none)
    ]
  where
    too_many : list_any is_empty set.entries ≡ false → ⊥
    too_many none =
        let numbers : List ℕ = map number_of set.entries in
        let count : length numbers ≡ ways_of set = length-map set.entries number_of in
        let number_at : (k : ℕ) → k < length numbers → get_or numbers k 0 ≡ number_of (entry_at set k) = λ k h. get_or-map number_of set.entries k blank 0 (omega (arith, h, count)) in
        let full : (k : ℕ) → k < length numbers → page_of (entry_at set k) ≡ Some (get_or numbers k 0) = λ k h.
        numbered (entry_at set k).state (false_from_ne_true _ (λ is. both_ways (list_any is_empty set.entries) none (list_any_at is_empty set.entries k blank (omega (arith, h, count)) is)))
        ∙ ap Some (sym (number_at k h)) in
        let apart : Apart (page ∷ numbers) = (
          (λ there. unlisted (listed set there.0 page (full there.0 there.1 ∙ ap Some (get_or_default numbers there.0 0 page there.1 ∙ there.2)))),
          apart_from numbers (λ i j below under same. sound.apart i j (get_or numbers i 0) (full i below) (full j under ∙ ap Some (sym same))),
        ) in
        let all : All (Contains own) (page ∷ numbers) = all_in numbers full in
        let over = no_more_than (page ∷ numbers) own apart all in
        omega (arith, over, few, count)
      where
        all_in : (numbers : List ℕ) → ((k : ℕ) → k < length numbers → page_of (entry_at set k) ≡ Some (get_or numbers k 0)) → All (Contains own) (page ∷ numbers)
        all_in numbers full zero d h = has
        all_in numbers full (suc k) d h =
            let within : k < length numbers = omega (arith, h) in
            rw (get_or_default numbers k d 0 within) (lists k (get_or numbers k 0) (full k within))

-- a load that begins there takes one more entry
pub used-started : (own : List ℕ) (page frame : ℕ) (old new : PageSet) → IsSound old →
    ((place listed_page : ℕ) → page_of (entry_at old place) ≡ Some listed_page → Contains own listed_page) →
    StartsLoad old new frame page → Contains own page → length own ≤ ways_of old → used_of new ≡ used_of old + 1
used-started own page frame old new sound lists starts has few =
    let room = room_left own page old sound lists starts.unlisted has few in
    let first = starts.empty_first room.0 room.1 room.2 in
    let change = used-with_entry old frame (loading page (entry_at old frame)) starts.within in
    let none : uses (entry_at old frame) ≡ 0 = rw first.0 refl in
    let change' : used_of new + uses (entry_at old frame) ≡ used_of old + uses (loading page (entry_at old frame)) = rw first.1 change in
    omega (arith, change', none)

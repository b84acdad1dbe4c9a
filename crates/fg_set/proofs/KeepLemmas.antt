-- What each call keeps: the entries that are pinned, and which pages are listed.
use Rattle.std.proofs.Common.{◌≡◌, ◌∙◌, ℕ, ◌<◌, Bool, true, false, Some, None, if◌then◌else◌, refl, sym, inl, inr}
use Rattle.std.proofs.lemmas.Bool.{cases_Bool, cases_eq, both_ways}
use Rattle.std.proofs.lemmas.List.{get_or-set_same, get_or-set_other}
use Rattle.fg_set.specs.Change.{AnswerTells, ChangesOne, KeepsPinned, ListsNoMore, ListsOneMore}
use Rattle.fg_set.specs.DirectoryStep.{Ended, ended}
use Rattle.fg_set.specs.Entry.{blank, page_of, is_free, is_loading, is_pinned, is_state_filled, used_by, ready, emptied, unpinned_by, repaired_by}
use Rattle.fg_set.specs.PageSet.{PageSet, IsSound, ways_of, entry_at, with_entry}
use Rattle.fg_set.specs.declared.answers.WantSeen.{WantSeen}
use Rattle.fg_set.specs.declared.answers.WantSeen.TheVariants as seen
use Rattle.fg_set.specs.declared.entry.Entry.{Entry}
use Rattle.fg_set.proofs.EntryLemmas.{free_parts, loading_state, page_of-same, same-refl}
use Rattle.fg_set.proofs.SoundLemmas.{change-with_entry}

-- ---- one entry is replaced

pub pinned-with_entry : (old : PageSet) (frame : ℕ) (entry : Entry) → frame < ways_of old →
    (is_pinned (entry_at old frame) ≡ true → is_pinned entry ≡ true → entry.state ≡ (entry_at old frame).state) → KeepsPinned old (with_entry old frame entry)
pinned-with_entry old frame entry within same other was is =
    elim (cases_eq other frame) [
      | inl e ↦
          let new = get_or-set_same old.entries frame entry blank within in
          rw (e, new) (same (rw e at was) (rw (e, new) at is))
      | inr ne ↦ rw (get_or-set_other old.entries frame other entry blank ne) refl
    ]

pub listed-with_entry : (old : PageSet) (frame : ℕ) (entry : Entry) → frame < ways_of old →
    ((page : ℕ) → page_of entry ≡ Some page → page_of (entry_at old frame) ≡ Some page) → ListsNoMore old (with_entry old frame entry)
listed-with_entry old frame entry within same other page has =
    elim (cases_eq other frame) [
      | inl e ↦ rw e (same page (rw (e, get_or-set_same old.entries frame entry blank within) at has))
      | inr ne ↦ rw (get_or-set_other old.entries frame other entry blank ne) at has
    ]

-- ---- `want`

pub want_pinned : (worker page : ℕ) (old new : PageSet) (answer : WantSeen) → AnswerTells worker page old new answer → KeepsPinned old new
want_pinned worker page old new (seen.Hit frame) hits = rw hits.used (pinned-with_entry old frame (used_by worker (entry_at old frame)) hits.within (λ _ _. refl))
want_pinned worker page old new (seen.Start frame) starts = λ other was is.
    elim (cases_eq other frame) [
      | inl e ↦ absurd (both_ways (is_pinned (entry_at new frame)) starts.unpinned (rw e at is))
      | inr ne ↦ (starts.change.others other ne).state
    ]
want_pinned worker page old new seen.Loading tells = rw tells.1 (λ _ _ _. refl)
want_pinned worker page old new seen.Again tells = rw tells.1 (λ _ _ _. refl)

pub want_listed : (worker page : ℕ) (old new : PageSet) (answer : WantSeen) → AnswerTells worker page old new answer → ListsOneMore old new page
want_listed worker page old new (seen.Hit frame) hits = λ other listed has.
    inl (listed-with_entry old frame (used_by worker (entry_at old frame)) hits.within (λ _ same. same) other listed (rw hits.used at has))
want_listed worker page old new (seen.Start frame) starts = λ other listed has.
    elim (cases_eq other frame) [
      | inl e ↦
          let here : page_of (entry_at new frame) ≡ Some listed = rw e at has in
          let is : Some page ≡ Some listed = rw starts.loads at here in
          inr (let same : listed ≡ page = cc in same)
      | inr ne ↦ inl (sym (page_of-same (starts.change.others other ne)) ∙ has)
    ]
want_listed worker page old new seen.Loading tells = rw tells.1 (λ _ _ has. inl has)
want_listed worker page old new seen.Again tells = rw tells.1 (λ _ _ has. inl has)

-- ---- `ready` and `fail`

unchanged : (set : PageSet) (frame : ℕ) → IsSound set → ChangesOne set set frame
unchanged set frame sound = record { ways = refl; workers = refl; hand = sound.hand_within; others = λ other _. same-refl (entry_at set other) }

-- a fact of the directory after the step, from the two cases
either : (P : PageSet → Type 0) (test : Bool) (changed kept : Ended) → (test ≡ true → P changed.after) → P kept.after → P (if◌then◌else◌ {A = Ended} test changed kept).after
either P true changed kept done other = done refl
either P false changed kept done other = other

module _ (frame page : ℕ) (becomes : Entry → Entry) (set : PageSet) (sound : IsSound set) (within : frame < ways_of set) where
  abbrev after : PageSet
  after = (ended frame page set (with_entry set frame (becomes (entry_at set frame)))).after

  pub ended_change : ChangesOne set after frame
  ended_change =
      either (λ s. ChangesOne set s frame) (is_loading page (entry_at set frame)) _ _
      (λ _. change-with_entry set frame (becomes (entry_at set frame)) sound) (unchanged set frame sound)

  -- who is loading is not pinned
  pub ended_pinned : KeepsPinned set after
  ended_pinned =
      either (λ s. KeepsPinned set s) (is_loading page (entry_at set frame)) _ _
      (λ coming. pinned-with_entry set frame (becomes (entry_at set frame)) within
      (λ was. absurd (both_ways (is_state_filled (entry_at set frame).state) (rw (loading_state page (entry_at set frame).state coming) refl) (sound.pinned_ready frame was))))
      (λ _ _ _. refl)

  pub ended_listed : (is_loading page (entry_at set frame) ≡ true → (listed : ℕ) → page_of (becomes (entry_at set frame)) ≡ Some listed → page_of (entry_at set frame) ≡ Some listed) →
      ListsNoMore set after
  ended_listed same =
      either (λ s. ListsNoMore set s) (is_loading page (entry_at set frame)) _ _
      (λ coming. listed-with_entry set frame (becomes (entry_at set frame)) within (same coming))
      (λ _ _ has. has)

pub ready_listed : (frame page : ℕ) (set : PageSet) → IsSound set → frame < ways_of set →
    ListsNoMore set (ended frame page set (with_entry set frame (ready page (entry_at set frame)))).after
ready_listed frame page set sound within =
    ended_listed frame page (ready page) set sound within (λ coming listed has. rw (loading_state page (entry_at set frame).state coming) has)

pub fail_listed : (frame page : ℕ) (set : PageSet) → IsSound set → frame < ways_of set →
    ListsNoMore set (ended frame page set (with_entry set frame (emptied (entry_at set frame)))).after
fail_listed frame page set sound within =
    ended_listed frame page emptied set sound within (λ _ listed has. absurd (let e : None ≡ Some listed = has in let no_page : ⊥ = cc in no_page))

-- ---- `unpin` and `repair`

pub unpin_pinned : (worker frame : ℕ) (set : PageSet) → frame < ways_of set → KeepsPinned set (with_entry set frame (unpinned_by worker (entry_at set frame)))
unpin_pinned worker frame set within = pinned-with_entry set frame (unpinned_by worker (entry_at set frame)) within (λ _ _. refl)

pub unpin_listed : (worker frame : ℕ) (set : PageSet) → frame < ways_of set → ListsNoMore set (with_entry set frame (unpinned_by worker (entry_at set frame)))
unpin_listed worker frame set within = listed-with_entry set frame (unpinned_by worker (entry_at set frame)) within (λ _ has. has)

-- an entry that is still pinned isn't given up
pub repair_pinned : (worker frame : ℕ) (set : PageSet) → frame < ways_of set → KeepsPinned set (with_entry set frame (repaired_by worker (entry_at set frame)))
repair_pinned worker frame set within =
    let left = unpinned_by worker (entry_at set frame) in
    pinned-with_entry set frame (repaired_by worker (entry_at set frame)) within (λ _ is. elim (cases_Bool (is_free left)) [
      | inl free ↦ absurd (both_ways (is_pinned left) (free_parts left free).1 is)
      | inr kept ↦ rw kept refl
    ])

pub repair_listed : (worker frame : ℕ) (set : PageSet) → frame < ways_of set → ListsNoMore set (with_entry set frame (repaired_by worker (entry_at set frame)))
repair_listed worker frame set within =
    let left = unpinned_by worker (entry_at set frame) in
    listed-with_entry set frame (repaired_by worker (entry_at set frame)) within (λ page has. elim (cases_Bool (is_free left)) [
      | inl free ↦ absurd (let e : None ≡ Some page = rw free at has in let no_page : ⊥ = cc in no_page)
      | inr kept ↦ rw kept at has
    ])

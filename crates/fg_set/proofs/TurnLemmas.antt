-- What a turn of the clock does, and that it finds a free entry.
use Rattle.std.proofs.Common.{◌≡◌, ◌≢◌, ◌∙◌, ◌⊎◌, ◌+◌, ◌-◌, ◌*◌, ℕ, ◌<◌, ◌≤◌, zero, suc, true, false, not, Option, Some, None, List, length, get_or, set, refl, sym, arith, inl, inr}
use Rattle.std.proofs.lemmas.Bool.{cases_Bool, cases_eq, cases_lt, and_parts, not_from_false, and_from, both_ways, cond_below, cond_above}
use Rattle.std.proofs.lemmas.List.{length-set, get_or-set_same, get_or-set_other}
use Rattle.fg_set.specs.Change.{SameHold}
use Rattle.fg_set.specs.Clock.{Turn, turn, is_taken, hand_after}
use Rattle.fg_set.specs.Entry.{blank, is_free, loading, passed}
use Rattle.fg_set.specs.declared.entry.Entry.{Entry}
use Rattle.fg_set.specs.declared.entry.EntryState.TheVariants.{Loading}
use Rattle.fg_set.proofs.ClockLemmas.{turn-taken, turn-passed, turn-none}
use Rattle.fg_set.proofs.EntryLemmas.{same-refl, same-trans, is_free-same, passed-same}

-- the hand goes on to one of the entries
pub hand_after-below : (ways hand : ℕ) → hand < ways → hand_after ways hand < ways
hand_after-below ways hand h =
    elim (cases_lt (hand + 1) ways) [
      | inl more ↦ rw (← cond_below (hand + 1) ways (hand + 1) 0 more) more
      | inr last ↦ rw (← cond_above (hand + 1) ways (hand + 1) 0 0 last refl) (omega arith)
    ]

-- a frame's entry after a look passed another or the same one
pub passed-at : (entries : List Entry) (hand i : ℕ) → hand < length entries →
    SameHold (get_or entries i blank) (get_or (set entries hand (passed (get_or entries hand blank))) i blank)
passed-at entries hand i h =
    elim (cases_eq i hand) [
      | inl e ↦ rw (e, get_or-set_same entries hand (passed (get_or entries hand blank)) blank h) (passed-same (get_or entries hand blank))
      | inr ne ↦ rw (get_or-set_other entries hand i (passed (get_or entries hand blank)) blank ne) (same-refl (get_or entries i blank))
    ]

-- the entries after a turn that took one: it was free, it loads the page, and every other frame is as before
pub record Takes (page : ℕ) (before after : List Entry) (frame : ℕ) : Type 0 where
  pub within : frame < length before
  pub free : is_free (get_or before frame blank) ≡ true
  pub loads : (get_or after frame blank).state ≡ Loading page
  pub pins : (get_or after frame blank).pins ≡ (get_or before frame blank).pins
  pub others : (other : ℕ) → other ≢ frame → SameHold (get_or before other blank) (get_or after other blank)

abbrev pub TakesSome : ℕ → List Entry → List Entry → Option ℕ → Type 0
TakesSome page before after (Some frame) = Takes page before after frame
TakesSome page before after None = Unit {0}

pub record TurnTells (page : ℕ) (entries : List Entry) (end : Turn) : Type 0 where
  pub ways : length end.entries ≡ length entries
  pub hand : end.hand < length entries
  pub takes : TakesSome page entries end.entries end.taken

later : (page : ℕ) (before between after : List Entry) (taken : Option ℕ) → length between ≡ length before →
    ((i : ℕ) → SameHold (get_or before i blank) (get_or between i blank)) →
    TakesSome page between after taken → TakesSome page before after taken
later page before between after None ways same t = tt
later page before between after (Some frame) ways same t = record {
  within = omega (arith, t.within, ways);
  free = sym (is_free-same (same frame)) ∙ t.free;
  loads = t.loads;
  pins = t.pins ∙ (same frame).pins;
  others = λ other ne. same-trans (same other) (t.others other ne);
}

takes_now : (page : ℕ) (entries : List Entry) (hand : ℕ) → hand < length entries → is_taken (get_or entries hand blank) ≡ true →
    Takes page entries (set entries hand (loading page (get_or entries hand blank))) hand
takes_now page entries hand within taken =
    let new = loading page (get_or entries hand blank) in
    let at = get_or-set_same entries hand new blank within in
    record {
      within = within;
      free = (and_parts _ _ taken).0;
      loads = rw at;
      pins = rw at;
      others = λ other ne. rw (get_or-set_other entries hand other new blank ne) (same-refl (get_or entries other blank));
    }

pub turn_tells : (looks page : ℕ) (entries : List Entry) (hand : ℕ) → hand < length entries → TurnTells page entries (turn looks page entries hand)
turn_tells zero page entries hand h = rw (turn-none page entries hand) (record { ways = refl; hand = h; takes = tt })
turn_tells (suc looks) page entries hand h =
    let entry = get_or entries hand blank in
    let next = hand_after-below (length entries) hand h in
    elim (cases_Bool (is_taken entry)) [
      | inl taken ↦ rw (turn-taken looks page entries hand taken) (record {
        ways = length-set entries hand (loading page entry);
        hand = next;
        takes = takes_now page entries hand h taken;
      })
      | inr passes ↦
          let on = set entries hand (passed entry) in
          let same_ways = length-set entries hand (passed entry) in
          let rest = turn_tells looks page on (hand_after (length entries) hand) (omega (arith, next, same_ways)) in
          rw (turn-passed looks page entries hand passes) (record {
            ways = rest.ways ∙ same_ways;
            hand = omega (arith, rest.hand, same_ways);
            takes = later page entries on _ _ same_ways (λ i. passed-at entries hand i h) rest.takes;
          })
    ]

-- ---- a turn of twice as many looks as there are entries finds a free one

-- the hand comes to the frame after so many steps
abbrev AtDistance : ℕ → ℕ → ℕ → ℕ → Type 0
AtDistance ways hand frame steps = (hand + steps ≡ frame) ⊎ (hand + steps ≡ frame + ways)

abbrev Finds : Turn → Type 0
Finds end = (frame : ℕ) × (end.taken ≡ Some frame)

hand_after-more : (ways hand : ℕ) → hand + 1 < ways → hand_after ways hand ≡ hand + 1
hand_after-more ways hand h = sym (cond_below (hand + 1) ways (hand + 1) 0 h)

hand_after-last : (ways hand : ℕ) → ways ≤ hand + 1 → hand_after ways hand ≡ 0
hand_after-last ways hand h = sym (cond_above (hand + 1) ways (hand + 1) 0 0 h refl)

-- one step on, the frame is nearer by one
nearer : (ways hand frame steps : ℕ) → hand < ways → frame < ways → (frame ≡ hand → ⊥) → AtDistance ways hand frame steps →
    AtDistance ways (hand_after ways hand) frame (steps - 1) × (0 < steps)
nearer ways hand frame steps within in_set other (inl e) =
    let more : hand + 1 < ways = omega arith in
    rw (hand_after-more ways hand more) (inl (omega arith), omega arith)
nearer ways hand frame steps within in_set other (inr e) =
    elim (cases_lt (hand + 1) ways) [
      | inl more ↦ rw (hand_after-more ways hand more) (inr (omega arith), omega arith)
      | inr last ↦ rw (hand_after-last ways hand last) (inl (omega arith), omega arith)
    ]

-- just passed, the frame is a whole round less one step away
round : (ways frame : ℕ) → frame < ways → AtDistance ways (hand_after ways frame) frame (ways - 1)
round ways frame h =
    elim (cases_lt (frame + 1) ways) [
      | inl more ↦ rw (hand_after-more ways frame more) (inr (omega arith))
      | inr last ↦ rw (hand_after-last ways frame last) (inl (omega arith))
    ]

-- the clock takes a free entry without a mark
taken_since : (e : Entry) → is_free e ≡ true → e.marked ≡ false → is_taken e ≡ true
taken_since e free unmarked = and_from (is_free e) (not e.marked) free (not_from_false e.marked unmarked)

-- what a look that passes the hand's entry leaves at another frame, and at the hand's own
other_frame : (entries : List Entry) (hand frame : ℕ) (e : Entry) → (frame ≡ hand → ⊥) → get_or (set entries hand e) frame blank ≡ get_or entries frame blank
other_frame entries hand frame e ne = get_or-set_other entries hand frame e blank ne

-- an unmarked free entry is found on the first way round
finds_unmarked : (looks page : ℕ) (entries : List Entry) (hand frame steps : ℕ) → hand < length entries → frame < length entries →
    AtDistance (length entries) hand frame steps → steps < looks →
    is_free (get_or entries frame blank) ≡ true → (get_or entries frame blank).marked ≡ false → Finds (turn looks page entries hand)
finds_unmarked zero page entries hand frame steps within in_set far less free unmarked = absurd (omega arith)
finds_unmarked (suc looks) page entries hand frame steps within in_set far less free unmarked =
    let entry = get_or entries hand blank in
    let on = set entries hand (passed entry) in
    let ways = length-set entries hand (passed entry) in
    elim (cases_Bool (is_taken entry)) [
      | inl taken ↦ rw (turn-taken looks page entries hand taken) (hand, refl)
      | inr passes ↦
          let other : frame ≡ hand → ⊥ = λ e. both_ways (is_taken entry) passes (rw (← e) (taken_since (get_or entries frame blank) free unmarked)) in
          let near = nearer (length entries) hand frame steps within in_set other far in
          let stays = other_frame entries hand frame (passed entry) other in
          rw (turn-passed looks page entries hand passes) (finds_unmarked looks page on (hand_after (length entries) hand) frame (steps - 1)
          (rw ways (hand_after-below (length entries) hand within)) (rw ways in_set) (rw ways near.0) (omega (arith, near.1))
          (rw stays free) (rw stays unmarked))
    ]

-- a marked one on the second
finds_free : (looks page : ℕ) (entries : List Entry) (hand frame steps : ℕ) → hand < length entries → frame < length entries →
    AtDistance (length entries) hand frame steps → steps + length entries < looks →
    is_free (get_or entries frame blank) ≡ true → Finds (turn looks page entries hand)
finds_free zero page entries hand frame steps within in_set far less free = absurd (omega arith)
finds_free (suc looks) page entries hand frame steps within in_set far less free =
    let entry = get_or entries hand blank in
    let on = set entries hand (passed entry) in
    let ways = length-set entries hand (passed entry) in
    let below = hand_after-below (length entries) hand within in
    elim (cases_Bool (is_taken entry)) [
      | inl taken ↦ rw (turn-taken looks page entries hand taken) (hand, refl)
      | inr passes ↦ rw (turn-passed looks page entries hand passes) (elim (cases_eq frame hand) [
        | inl here ↦
            let at = get_or-set_same entries hand (passed entry) blank within in
            let free_here : is_free entry ≡ true = rw (← here) free in
            finds_unmarked looks page on (hand_after (length entries) hand) frame (length entries - 1)
            (rw ways below) (rw ways in_set) (rw (ways, ← here) (round (length entries) frame in_set)) (omega arith)
            (rw (here, at) free_here) (rw (here, at) (rw free_here refl))
        | inr other ↦
            let near = nearer (length entries) hand frame steps within in_set other far in
            let stays = other_frame entries hand frame (passed entry) other in
            finds_free looks page on (hand_after (length entries) hand) frame (steps - 1)
            (rw ways below) (rw ways in_set) (rw ways near.0) (omega (arith, near.1, ways)) (rw stays free)
      ])
    ]

pub turn_finds : (page : ℕ) (entries : List Entry) (hand frame : ℕ) → hand < length entries → frame < length entries →
    is_free (get_or entries frame blank) ≡ true → Finds (turn (2 * length entries) page entries hand)
turn_finds page entries hand frame within in_set free =
    elim (cases_lt frame hand) [
      | inl behind ↦ finds_free (2 * length entries) page entries hand frame (frame + length entries - hand) within in_set (inr (omega arith)) (omega arith) free
      | inr ahead ↦ finds_free (2 * length entries) page entries hand frame (frame - hand) within in_set (inl (omega arith)) (omega arith) free
    ]

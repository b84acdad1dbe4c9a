-- What the answer of `want` tells of the directory.
use Rattle.std.proofs.Common.{◌≡◌, ◌∙◌, ◌⊎◌, ◌*◌, ◌&&◌, ◌||◌, ℕ, ◌<◌, Bool, true, false, not, Option, Some, None, get_or, refl, sym, subst, arith, inl, inr}
use Rattle.std.specs.List.{position, list_any}
use Rattle.std.proofs.lemmas.Bool.{both_ways, eq-eqb, false_from_ne_true, false≢true, or_left, or_right}
use Rattle.std.proofs.lemmas.List.{length-set, get_or-set_same, get_or-set_other, get_or_default}
use Rattle.std.proofs.lemmas.List.Folds.{Any-from_list_any, list_any_at}
use Rattle.std.proofs.lemmas.List.Quantifiers.{position-Some}
use Rattle.fg_set.specs.Change.{AnswerTells}
use Rattle.fg_set.specs.Clock.{Turn, turn}
use Rattle.fg_set.specs.DirectoryStep.{Wanted, wanted, hit_or_more, under_way_or_more, started_or_more, held_or_turned, turn_answer}
use Rattle.fg_set.specs.Entry.{blank, page_in, is_empty, is_free, is_loading, is_pinned, is_ready, is_state_empty, is_state_filled, is_state_loading, is_state_ready, loading}
use Rattle.fg_set.specs.PageSet.{PageSet, IsSound, ways_of, entry_at}
use Rattle.fg_set.specs.Slips.{is_state_coming, IsListed}
use Rattle.fg_set.specs.declared.answers.WantSeen.{WantSeen}
use Rattle.fg_set.specs.declared.entry.Entry.{Entry}
use Rattle.fg_set.specs.declared.entry.EntryState.{EntryState}
use Rattle.fg_set.specs.declared.entry.EntryState.TheVariants.{Empty, Loading, Ready}
use Rattle.fg_set.proofs.EntryLemmas.{position-None, ready_state, loading_state, empty_state, same-refl, free_parts}
use Rattle.fg_set.proofs.TurnLemmas.{TurnTells, Takes, turn_tells, turn_finds}

-- every entry fails a test
abbrev Fails : (Entry → Bool) → PageSet → Type 0
Fails test s = (i : ℕ) (d : Entry) → i < ways_of s → test (get_or s.entries i d) ≡ false

-- a state that has the page is ready with it or loading it
listed_state : (page : ℕ) (s : EntryState) → page_in s ≡ Some page → (is_state_ready page s ≡ true) ⊎ (is_state_loading page s ≡ true)
listed_state page Empty h = absurd (let e : ⊥ = cc in e)
listed_state page (Loading p) h = inr (eq-eqb p page (let e : p ≡ page = cc in e))
listed_state page (Ready p) h = inl (eq-eqb p page (let e : p ≡ page = cc in e))

unlisted_since : (page : ℕ) (s : PageSet) → Fails (is_ready page) s → Fails (is_loading page) s → ¬ IsListed s page
unlisted_since page s no_ready no_loading (k, x, h, at, has) =
    elim (listed_state page x.state has) [
      | inl is ↦ both_ways (is_ready page x) (rw at at (no_ready k x h)) is
      | inr is ↦ both_ways (is_loading page x) (rw at at (no_loading k x h)) is
    ]

-- an entry that is neither empty nor free is pinned or loading
held_state : (s : EntryState) (pinned : Bool) → is_state_empty s ≡ false → (is_state_filled s && not pinned) ≡ false → (pinned || is_state_coming s) ≡ true
held_state Empty pinned full taken = absurd (false≢true (sym full))
held_state (Loading p) pinned full taken = or_right pinned true refl
held_state (Ready p) true full taken = refl
held_state (Ready p) false full taken = absurd (false≢true (sym taken))

-- ---- the chain of cases, from the last one up

took : (worker page : ℕ) (s : PageSet) (end : Turn) (frame : ℕ) → IsSound s → ¬ IsListed s page → Fails is_empty s → TurnTells page s.entries end → end.taken ≡ Some frame →
    AnswerTells worker page s (record s { entries = end.entries; hand = end.hand }) (turn_answer end.taken)
took worker page s end frame sound unlisted full tells taken =
    let takes : Takes page s.entries end.entries frame = rw taken at tells.takes in
    rw taken (record {
      within = takes.within;
      unlisted = unlisted;
      was_open = or_right (is_empty (entry_at s frame)) _ takes.free;
      loads = takes.loads;
      pins = takes.pins;
      unpinned = rw takes.pins (free_parts (entry_at s frame) takes.free).1;
      change = record { ways = tells.ways; workers = refl; hand = omega (arith, tells.hand, tells.ways); others = takes.others };
      empty_first = λ k h is. absurd (both_ways (is_empty (entry_at s k)) (full k blank h) is);
    })

held_tells : (worker page : ℕ) (s : PageSet) → IsSound s → ¬ IsListed s page → Fails is_empty s → (free : Bool) → list_any is_free s.entries ≡ free →
    AnswerTells worker page s (held_or_turned page s free).after (held_or_turned page s free).answer
held_tells worker page s sound unlisted full false free = (
  record {
    unlisted = unlisted;
    held = λ k d h. held_state (get_or s.entries k d).state (is_pinned (get_or s.entries k d)) (full k d h)
        (false_from_ne_true _ (λ is. both_ways (list_any is_free s.entries) free (list_any_at is_free s.entries k d h is)));
  },
  refl,
)
held_tells worker page s sound unlisted full true free =
    let some = Any-from_list_any is_free s.entries free in
    let at : get_or s.entries some.0 blank ≡ some.1 = get_or_default s.entries some.0 blank some.1 some.2 ∙ some.3 in
    let finds = turn_finds page s.entries s.hand some.0 sound.hand_within some.2 (rw at some.4) in
    took worker page s (turn (2 * ways_of s) page s.entries s.hand) finds.0 sound unlisted full
    (turn_tells (2 * ways_of s) page s.entries s.hand sound.hand_within) finds.1

started_tells : (worker page : ℕ) (s : PageSet) → IsSound s → ¬ IsListed s page → (place : Option ℕ) → position is_empty s.entries ≡ place →
    AnswerTells worker page s (started_or_more page s place).after (started_or_more page s place).answer
started_tells worker page s sound unlisted None at =
    held_tells worker page s sound unlisted (λ i d h. position-None is_empty s.entries i d at h) (list_any is_free s.entries) refl
started_tells worker page s sound unlisted (Some frame) at =
    let found = position-Some is_empty s.entries frame blank at in
    let old = entry_at s frame in
    let new = get_or-set_same s.entries frame (loading page old) blank found.0 in
    let no_pin : is_pinned old ≡ false = false_from_ne_true _ (λ pinned.
    both_ways (is_state_filled old.state) (rw (empty_state old.state found.1) refl) (sound.pinned_ready frame pinned)) in
    record {
      within = found.0;
      unlisted = unlisted;
      was_open = or_left (is_empty old) _ found.1;
      loads = rw new refl;
      pins = rw new refl;
      unpinned = rw new no_pin;
      change = record {
        ways = length-set s.entries frame (loading page old);
        workers = refl;
        hand = rw (length-set s.entries frame (loading page old)) sound.hand_within;
        others = λ other ne. rw (get_or-set_other s.entries frame other (loading page old) blank ne) (same-refl (entry_at s other));
      };
      empty_first = λ k h is. (found.1, refl);
    }

under_way_tells : (worker page : ℕ) (s : PageSet) → IsSound s → Fails (is_ready page) s → (place : Option ℕ) → position (is_loading page) s.entries ≡ place →
    AnswerTells worker page s (under_way_or_more page s place).after (under_way_or_more page s place).answer
under_way_tells worker page s sound no_ready None at =
    started_tells worker page s sound (unlisted_since page s no_ready (λ i d h. position-None (is_loading page) s.entries i d at h)) (position is_empty s.entries) refl
under_way_tells worker page s sound no_ready (Some frame) at =
    let found = position-Some (is_loading page) s.entries frame blank at in
    let entry = entry_at s frame in
    ((frame, entry, found.0, get_or_default s.entries frame entry blank found.0, loading_state page entry.state found.1), refl)

hit_tells : (worker page : ℕ) (s : PageSet) → IsSound s → (place : Option ℕ) → position (is_ready page) s.entries ≡ place →
    AnswerTells worker page s (hit_or_more worker page s place).after (hit_or_more worker page s place).answer
hit_tells worker page s sound None at =
    under_way_tells worker page s sound (λ i d h. position-None (is_ready page) s.entries i d at h) (position (is_loading page) s.entries) refl
hit_tells worker page s sound (Some frame) at =
    let found = position-Some (is_ready page) s.entries frame blank at in
    record { within = found.0; was_ready = ready_state page (entry_at s frame).state found.1; used = refl }

pub wanted_tells : (worker page : ℕ) (s : PageSet) → IsSound s → AnswerTells worker page s (wanted worker page s).after (wanted worker page s).answer
wanted_tells worker page s sound = hit_tells worker page s sound (position (is_ready page) s.entries) refl

-- the same at a step that is known
pub step_tells : (worker page : ℕ) (s after : PageSet) (answer : WantSeen) → IsSound s → wanted worker page s ≡ record { answer = answer; after = after } →
    AnswerTells worker page s after answer
step_tells worker page s after answer sound step =
    subst (λ (w : Wanted). AnswerTells worker page s w.after w.answer) step (wanted_tells worker page s sound)

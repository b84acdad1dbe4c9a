-- Each step keeps what holds of every directory.
use Rattle.std.proofs.Common.{◌≡◌, ◌≢◌, ◌∙◌, ℕ, ◌<◌, ◌≤◌, Bool, true, false, Some, None, List, length, get_or, set, replicate, refl, sym, ap, arith, inl, inr}
use Rattle.std.proofs.lemmas.Bool.{cases_Bool, cases_eq, cases_lt, both_ways, false≢true}
use Rattle.std.proofs.lemmas.List.{length-set, length-replicate, get_or-set_same, get_or-set_other, get_or_default, get_or-replicate, get_or_past}
use Rattle.std.proofs.lemmas.List.Folds.{Any-from_list_any, list_any_at}
use Rattle.fg_set.specs.Change.{ChangesOne, AnswerTells}
use Rattle.fg_set.specs.DirectoryStep.{wanted, made_ready, failed, unpinned, repaired}
use Rattle.fg_set.specs.Entry.{blank, page_of, is_free, is_loading, is_pinned, is_state_filled, used_by, ready, emptied, unpinned_by, repaired_by}
use Rattle.fg_set.specs.PageSet.{PageSet, IsSound, ways_of, entry_at, with_entry, new_set}
use Rattle.fg_set.specs.PinBits.{is_any_set}
use Rattle.fg_set.specs.Slips.{IsListed}
use Rattle.fg_set.specs.declared.answers.WantSeen.{WantSeen}
use Rattle.fg_set.specs.declared.answers.WantSeen.TheVariants as seen
use Rattle.fg_set.specs.declared.entry.Entry.{Entry}
use Rattle.fg_set.proofs.EntryLemmas.{loading_state, same-refl, page_of-same, free_parts}
use Rattle.fg_set.proofs.WantLemmas.{wanted_tells}

-- what one entry may become where all others hold what they held
pub record MayBecome (old : PageSet) (frame : ℕ) (entry : Entry) : Type 0 where
  pub bits : length entry.pins ≡ 64
  pub pinned_ready : is_pinned entry ≡ true → is_state_filled entry.state ≡ true
  pub alone : (other page : ℕ) → other ≢ frame → page_of entry ≡ Some page → page_of (entry_at old other) ≡ Some page → ⊥

pub sound-change : (old new : PageSet) (frame : ℕ) → IsSound old → ChangesOne old new frame → MayBecome old frame (entry_at new frame) → IsSound new
sound-change old new frame sound change may = record {
  some_way = omega (arith, sound.some_way, change.ways);
  at_most_16_ways = omega (arith, sound.at_most_16_ways, change.ways);
  at_most_64_workers = omega (arith, sound.at_most_64_workers, change.workers);
  hand_within = change.hand;
  bits = λ k d h. rw (get_or_default new.entries k d blank h) (elim (cases_eq k frame) [
    | inl e ↦ rw e may.bits
    | inr ne ↦ rw (change.others k ne).pins (sound.bits k blank (omega (arith, h, change.ways)))
  ]);
  apart = λ one other page has_one has_other. elim (cases_eq one frame) [
    | inl e ↦ elim (cases_eq other frame) [
      | inl e' ↦ e ∙ sym e'
      | inr ne' ↦ absurd (may.alone other page ne' (rw e at has_one) (sym (page_of-same (change.others other ne')) ∙ has_other))
    ]
    | inr ne ↦ elim (cases_eq other frame) [
      | inl e' ↦ absurd (may.alone one page ne (rw e' at has_other) (sym (page_of-same (change.others one ne)) ∙ has_one))
      | inr ne' ↦ sound.apart one other page (sym (page_of-same (change.others one ne)) ∙ has_one) (sym (page_of-same (change.others other ne')) ∙ has_other)
    ]
  ];
  pinned_ready = λ other pinned. elim (cases_eq other frame) [
    | inl e ↦ rw e (may.pinned_ready (rw e at pinned))
    | inr ne ↦
        let same = change.others other ne in
        rw same.state (sound.pinned_ready other (rw same.pins at pinned))
  ];
}

pub change-with_entry : (old : PageSet) (frame : ℕ) (entry : Entry) → IsSound old → ChangesOne old (with_entry old frame entry) frame
change-with_entry old frame entry sound = record {
  ways = length-set old.entries frame entry;
  workers = refl;
  hand = rw (length-set old.entries frame entry) sound.hand_within;
  others = λ other ne. rw (get_or-set_other old.entries frame other entry blank ne) (same-refl (entry_at old other));
}

-- an entry replaced by one that has no other page
pub sound-with_entry : (old : PageSet) (frame : ℕ) (entry : Entry) → IsSound old → frame < ways_of old → length entry.pins ≡ 64 →
    (is_pinned entry ≡ true → is_state_filled entry.state ≡ true) →
    ((page : ℕ) → page_of entry ≡ Some page → page_of (entry_at old frame) ≡ Some page) → IsSound (with_entry old frame entry)
sound-with_entry old frame entry sound within bits pinned_ready same_page =
    sound-change old (with_entry old frame entry) frame sound (change-with_entry old frame entry sound)
    (rw (get_or-set_same old.entries frame entry blank within) (record {
      bits = bits;
      pinned_ready = pinned_ready;
      alone = λ other page ne has has_other. ne (sound.apart other frame page has_other (same_page page has));
    }))

pub listed : (old : PageSet) (other page : ℕ) → page_of (entry_at old other) ≡ Some page → IsListed old page
listed old other page has = elim (cases_lt other (ways_of old)) [
  | inl h ↦ (other, entry_at old other, h, get_or_default old.entries other (entry_at old other) blank h, has)
  | inr over ↦ absurd (let e : None ≡ Some page = rw (get_or_past old.entries other blank over) at has in let no_page : ⊥ = cc in no_page)
]

-- ---- `new`

new_entry : (ways frame : ℕ) → get_or (replicate ways blank) frame blank ≡ blank
new_entry ways frame = elim (cases_lt frame ways) [
  | inl h ↦ get_or-replicate ways frame blank blank h
  | inr over ↦ get_or_past (replicate ways blank) frame blank (rw (length-replicate ways blank) over)
]

pub sound-new : (ways workers : ℕ) → 0 < ways → ways ≤ 16 → workers ≤ 64 → IsSound (new_set ways workers)
sound-new ways workers some few few_workers =
    let count = length-replicate ways blank in
    record {
      some_way = rw count some;
      at_most_16_ways = rw count few;
      at_most_64_workers = few_workers;
      hand_within = rw count some;
      bits = λ k d h. rw (get_or-replicate ways k blank d (rw count at h)) refl;
      apart = λ one other page has has_other. absurd (let e : None ≡ Some page = rw (new_entry ways one) at has in let no_page : ⊥ = cc in no_page);
      pinned_ready = λ frame pinned. absurd (false≢true (rw (new_entry ways frame) at pinned));
    }

-- ---- `want`

pub tells_sound : (worker page : ℕ) (old new : PageSet) (answer : WantSeen) → IsSound old → AnswerTells worker page old new answer → IsSound new
tells_sound worker page old new (seen.Hit frame) sound hits =
    let entry = entry_at old frame in
    rw hits.used (sound-with_entry old frame (used_by worker entry) sound hits.within
    (length-set entry.pins worker true ∙ sound.bits frame blank hits.within)
    (λ _. rw hits.was_ready refl)
    (λ page has. has))
tells_sound worker page old new (seen.Start frame) sound starts =
    sound-change old new frame sound starts.change (record {
      bits = rw starts.pins (sound.bits frame blank starts.within);
      pinned_ready = λ pinned. absurd (both_ways _ starts.unpinned pinned);
      alone = λ other page' ne has has_other.
          let same : page ≡ page' = (let e : Some page ≡ Some page' = sym (rw starts.loads refl) ∙ has in cc) in
          starts.unlisted (listed old other page (has_other ∙ ap Some (sym same)));
    })
tells_sound worker page old new seen.Loading sound tells = rw tells.1 sound
tells_sound worker page old new seen.Again sound tells = rw tells.1 sound

pub sound-wanted : (worker page : ℕ) (old : PageSet) → IsSound old → IsSound (wanted worker page old).after
sound-wanted worker page old sound =
    tells_sound worker page old (wanted worker page old).after (wanted worker page old).answer sound (wanted_tells worker page old sound)

-- ---- `ready` and `fail`

pub sound-made_ready : (frame page : ℕ) (old : PageSet) → IsSound old → frame < ways_of old → IsSound (made_ready frame page old).after
sound-made_ready frame page old sound within =
    let entry = entry_at old frame in
    elim (cases_Bool (is_loading page entry)) [
      | inl coming ↦ rw coming (sound-with_entry old frame (ready page entry) sound within (sound.bits frame blank within) (λ _. refl)
          (λ page' has. rw (loading_state page entry.state coming) has))
      | inr other ↦ rw other sound
    ]

pub sound-failed : (frame page : ℕ) (old : PageSet) → IsSound old → frame < ways_of old → IsSound (failed frame page old).after
sound-failed frame page old sound within =
    let entry = entry_at old frame in
    elim (cases_Bool (is_loading page entry)) [
      | inl coming ↦ rw coming (sound-with_entry old frame (emptied entry) sound within (sound.bits frame blank within)
          (λ pinned. absurd (both_ways (is_state_filled entry.state) (rw (loading_state page entry.state coming) refl) (sound.pinned_ready frame pinned)))
          (λ page' has. absurd (let e : None ≡ Some page' = has in let no_page : ⊥ = cc in no_page)))
      | inr other ↦ rw other sound
    ]

-- ---- `unpin` and `repair`

-- who is still pinned once a bit is cleared was so before
pub pinned_before : (pins : List Bool) (worker : ℕ) → is_any_set (set pins worker false) ≡ true → is_any_set pins ≡ true
pinned_before pins worker pinned =
    let some = Any-from_list_any (λ bit. bit) (set pins worker false) pinned in
    let within : some.0 < length pins = omega (arith, some.2, length-set pins worker false) in
    elim (cases_eq some.0 worker) [
      | inl e ↦ absurd (both_ways some.1 (sym some.3 ∙ rw e (get_or-set_same pins worker false some.1 (rw e at within))) some.4)
      | inr ne ↦ list_any_at (λ bit. bit) pins some.0 some.1 within (sym (get_or-set_other pins worker some.0 false some.1 ne) ∙ some.3 ∙ some.4)
    ]

pub sound-unpinned : (worker frame : ℕ) (old : PageSet) → IsSound old → frame < ways_of old → IsSound (unpinned worker frame old)
sound-unpinned worker frame old sound within =
    let entry = entry_at old frame in
    sound-with_entry old frame (unpinned_by worker entry) sound within
    (length-set entry.pins worker false ∙ sound.bits frame blank within)
    (λ pinned. sound.pinned_ready frame (pinned_before entry.pins worker pinned))
    (λ page has. has)

pub sound-repaired : (worker frame : ℕ) (old : PageSet) → IsSound old → frame < ways_of old → IsSound (repaired worker frame old)
sound-repaired worker frame old sound within =
    let entry = entry_at old frame in
    let left = unpinned_by worker entry in
    let bits = length-set entry.pins worker false ∙ sound.bits frame blank within in
    elim (cases_Bool (is_free left)) [
      | inl free ↦ sound-with_entry old frame (repaired_by worker entry) sound within bits
          (λ pinned. absurd (both_ways (is_pinned left) (free_parts left free).1 pinned))
          (λ page has. absurd (let e : None ≡ Some page = rw free at has in let no_page : ⊥ = cc in no_page))
      | inr kept ↦ sound-with_entry old frame (repaired_by worker entry) sound within bits
          (λ pinned. rw kept (sound.pinned_ready frame (pinned_before entry.pins worker pinned)))
          (λ page has. rw kept at has)
    ]

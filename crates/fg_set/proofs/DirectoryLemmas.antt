-- The directory's fields after its used entries were lent out and came back.
use Rattle.std.proofs.Common.{◌≡◌, ◌∙◌, ◌++◌, ℕ, ◌<◌, ◌≤◌, ◌^◌, List, length, take, drop, ap, subst, arith}
use Rattle.std.proofs.lemmas.List.{take_at, length-append, length-drop, length-take-le}
use Rattle.fg_set.specs.Change.{AnswerTells}
use Rattle.fg_set.specs.Directory.{set_of, IsDirectory}
use Rattle.fg_set.specs.DirectoryStep.{Wanted, wanted}
use Rattle.fg_set.specs.PageSet.{PageSet, IsSound}
use Rattle.fg_set.specs.declared.answers.WantSeen.{WantSeen}
use Rattle.fg_set.specs.declared.directory.Directory.TheInside.{Inside}
use Rattle.fg_set.specs.declared.entry.Entry.{Entry}
use Rattle.fg_set.proofs.SoundLemmas.{sound-wanted}
use Rattle.fg_set.proofs.WantLemmas.{step_tells}

-- the fields with other used entries and another hand
abbrev pub with_back : Inside → ℕ → List Entry → ℕ → Inside
with_back fields lent back hand =
    record { entries = back ++ drop lent fields.entries; ways = fields.ways; hand = hand; workers = fields.workers }

pub seen_back : (fields : Inside) (lent : ℕ) (back : List Entry) (hand : ℕ) (after : PageSet) → IsDirectory fields → lent ≡ fields.ways →
    length back ≡ length (take lent fields.entries) → record { entries = back; hand = hand; workers = fields.workers } ≡ after →
    set_of (with_back fields lent back hand) ≡ after
seen_back fields lent back hand after is ways same seen =
    let few : fields.ways ≤ length fields.entries = omega (arith, is.room, is.few_ways) in
    let count : length back ≡ fields.ways = same ∙ rw ways (length-take-le fields.ways fields.entries few) in
    ap (λ (entries : List Entry). record { entries = entries; hand = hand; workers = fields.workers }) (take_at back (drop lent fields.entries) fields.ways count) ∙ seen

pub directory_back : (fields : Inside) (lent : ℕ) (back : List Entry) (hand : ℕ) (after : PageSet) → IsDirectory fields → lent ≡ fields.ways →
    length back ≡ length (take lent fields.entries) → set_of (with_back fields lent back hand) ≡ after → IsSound after → IsDirectory (with_back fields lent back hand)
directory_back fields lent back hand after is ways same seen sound =
    let few : fields.ways ≤ length fields.entries = omega (arith, is.room, is.few_ways) in
    let count : length back ≡ fields.ways = same ∙ rw ways (length-take-le fields.ways fields.entries few) in
    record {
      room = omega (arith, is.room, count, ways, few, length-append back (drop lent fields.entries), length-drop lent fields.entries);
      few_ways = is.few_ways;
      sound = rw seen sound;
    }

-- ---- `want`, on the fields

-- the step on the entries that were lent out is the step on the directory
pub step_seen : (fields : Inside) (lent hand worker page : ℕ) (answer : WantSeen) (back : List Entry) (next : ℕ) → lent ≡ fields.ways → hand ≡ fields.hand →
    ((workers : ℕ) → wanted worker page (record { entries = take lent fields.entries; hand = hand; workers = workers }) ≡ record { answer = answer; after = record { entries = back; hand = next; workers = workers } }) →
    wanted worker page (set_of fields) ≡ record { answer = answer; after = record { entries = back; hand = next; workers = fields.workers } }
step_seen fields lent hand worker page answer back next ways at step =
    subst (λ (p : ℕ × ℕ). wanted worker page (record { entries = take p.0 fields.entries; hand = p.1; workers = fields.workers }) ≡ record { answer = answer; after = record { entries = back; hand = next; workers = fields.workers } })
    (λ i. (ways i, at i)) (step fields.workers)

pub sound_after : (fields : Inside) (worker page : ℕ) (answer : WantSeen) (after : PageSet) → IsDirectory fields →
    wanted worker page (set_of fields) ≡ record { answer = answer; after = after } → IsSound after
sound_after fields worker page answer after is step =
    subst (λ (w : Wanted). IsSound w.after) step (sound-wanted worker page (set_of fields) is.sound)

pub hand_fits : (fields : Inside) (worker page : ℕ) (answer : WantSeen) (after : PageSet) → IsDirectory fields →
    wanted worker page (set_of fields) ≡ record { answer = answer; after = after } → after.hand < 2 ^ 8
hand_fits fields worker page answer after is step =
    let sound = sound_after fields worker page answer after is step in
    omega (arith, sound.hand_within, sound.at_most_16_ways)

-- what the step tells, of the directory as contracts see it
pub tells_now : (fields : Inside) (now : PageSet) (worker page : ℕ) (answer : WantSeen) (after : PageSet) → IsDirectory fields → set_of fields ≡ now →
    wanted worker page (set_of fields) ≡ record { answer = answer; after = after } → AnswerTells worker page now after answer
tells_now fields now worker page answer after is view step =
    subst (λ s. AnswerTells worker page s after answer) view (step_tells worker page (set_of fields) after answer is.sound step)

pub sound_now : (fields : Inside) (now : PageSet) → IsDirectory fields → set_of fields ≡ now → IsSound now
sound_now fields now is view = subst IsSound view is.sound

-- What was sent to a vertex stands in the batches of its part, in order.
use Rattle.std.proofs.Common.{◌≡◌, ◌≢◌, ℕ, zero, suc, ◌+◌, ◌/◌, ◌<◌, ◌≤◌, ◌==◌, Bool, true, false, cond, List, [], ◌∷◌, ◌++◌, length, map as each, refl, sym, ap, ap₂, ◌∙◌, arith, eq-eqb, append-nil, inl, inr, ◌*◌, ◌-◌}
use Rattle.std.proofs.lemmas.Bool.{cases_lt, ne_eqb}
use Rattle.std.proofs.lemmas.Grind.{flat_map-append}
use Rattle.std.proofs.lemmas.List.{get_or_past, map-append}
use Rattle.std.proofs.lemmas.List.Elements.{filter-append}
use Rattle.std.specs.Prelude.{filter, not}
use Rattle.std.specs.List.{flat_map}
use Rattle.fg_batch.proofs.LaneLaws.{lane_below, lane_part, more, seen}
use Rattle.fg_batch.proofs.SentLaws.{sent-along_another, sent-along_its_lane}
use Rattle.fg_batch.specs.Lanes.{lane_of, lanes_each}
use Rattle.fg_part.specs.declared.part_map.PartMap.{PartMap}
use Rattle.fg_part.specs.PartMap.{part_of}
use Rattle.fg_batch.specs.declared.batch.Batch.{Batch}
use Rattle.fg_batch.specs.Mails.{MailList}
use Rattle.fg_batch.specs.Outbox.{HoldsAllSent, LaneMail, Sending, batched_for, goes_along, has_mail, lane_at, lane_mail, lanes_with_mail, told_by}
use Rattle.fg_model.specs.declared.mail.Mail.{Mail}
use Rattle.fg_model.specs.Iteration.{sent_to}

abbrev told_for : ℕ → List LaneMail → List Mail
told_for part told = flat_map (λ (one : LaneMail). one.mails) (filter (λ (one : LaneMail). one.part == part) told)

abbrev one_if : Bool → ℕ
one_if b = cond b 1 0

pub batched-told : (part : ℕ) (batches : List Batch) → batched_for part batches ≡ told_for part (each told_by batches)
batched-told part [] = refl
batched-told part (batch ∷ batches) = by_test (batch.part == part) refl (batched-told part batches)
  where
    by_test : (test : Bool) → (batch.part == part) ≡ test → batched_for part batches ≡ told_for part (each told_by batches)
        → batched_for part (batch ∷ batches) ≡ told_for part (each told_by (batch ∷ batches))
    by_test true is rest = rw is (ap (λ (mails : List Mail). batch.mails.items ++ mails) rest)
    by_test false is rest = rw is rest

sent_to-append : (v : ℕ) (first next : List Mail) → sent_to v (first ++ next) ≡ sent_to v first ++ sent_to v next
sent_to-append v first next =
    ap (each (λ (one : Mail). one.message)) (filter-append (λ (one : Mail). one.target == v) first next)
    ∙ map-append (λ (one : Mail). one.message) (filter (λ (one : Mail). one.target == v) first) (filter (λ (one : Mail). one.target == v) next)

module _ (v part block of_part : ℕ) (lanes : List MailList) where
  abbrev found : List LaneMail → List ℕ
  found told = sent_to v (told_for part told)

  found-append : (first next : List LaneMail) → found (first ++ next) ≡ found first ++ found next
  found-append first next =
      ap (λ (told : List LaneMail). sent_to v (flat_map (λ (one : LaneMail). one.mails) told)) (filter-append (λ (one : LaneMail). one.part == part) first next)
      ∙ ap (sent_to v) (flat_map-append (λ (one : LaneMail). one.mails) (filter (λ (one : LaneMail). one.part == part) first) (filter (λ (one : LaneMail). one.part == part) next))
      ∙ sent_to-append v (told_for part first) (told_for part next)

  abbrev last : LaneMail → List ℕ
  last lane = found (filter has_mail (lane ∷ []))

  last-none : (lane : LaneMail) → sent_to v lane.mails ≡ [] → last lane ≡ []
  last-none lane none = by_tests (has_mail lane) refl (lane.part == part) refl
    where
      by_tests : (some : Bool) → has_mail lane ≡ some → (mine : Bool) → (lane.part == part) ≡ mine → last lane ≡ []
      by_tests false is mine own = rw is refl
      by_tests true is false own = rw (is, own) refl
      by_tests true is true own = rw (is, own) (ap (sent_to v) (append-nil lane.mails) ∙ none)

  no_mail : (mails : List Mail) → not (length mails == 0) ≡ false → mails ≡ []
  no_mail [] is = refl
  no_mail (mail ∷ mails) is =
      let wrong : one_if true ≡ one_if false =
      ap one_if (sym (ap not (ne_eqb (length (mail ∷ mails)) 0 (λ same. omega (arith, same)))) ∙ is) in
      absurd (omega (arith, wrong))

  last-own : (lane : LaneMail) → lane.part ≡ part → last lane ≡ sent_to v lane.mails
  last-own lane own = by_test (has_mail lane) refl
    where
      mine : (lane.part == part) ≡ true
      mine = eq-eqb lane.part part own

      by_test : (some : Bool) → has_mail lane ≡ some → last lane ≡ sent_to v lane.mails
      by_test true is = rw (is, mine) (ap (sent_to v) (append-nil lane.mails))
      by_test false is = rw is (sym (ap (sent_to v) (no_mail lane.mails is)))

  module _ (own : ℕ) (of : own / of_part ≡ part) (others : (l : ℕ) → l ≢ own → sent_to v (lane_at lanes l).items ≡ []) where
    step : (n : ℕ) → found (seen block of_part lanes n (n + 1)) ≡ found (seen block of_part lanes n n) ++ last (lane_mail block of_part lanes n)
    step n = ap found (more block of_part lanes n) ∙ found-append (seen block of_part lanes n n) (filter has_mail (lane_mail block of_part lanes n ∷ []))

    next : (n : ℕ) → suc n ≡ n + 1
    next n = omega arith

    first_behind : own + 1 + 0 ≡ own + 1
    first_behind = omega arith

    later : (k : ℕ) → own + 1 + suc k ≡ own + 1 + k + 1
    later k = omega arith

    before : (n : ℕ) → n ≤ own → found (seen block of_part lanes 0 n) ≡ []
    before zero below = refl
    before (suc n) below =
        ap (λ (count : ℕ). found (seen block of_part lanes 0 count)) (next n) ∙ step n ∙ ap₂ (λ (first next : List ℕ). first ++ next) (before n (omega (arith, below)))
        (last-none (lane_mail block of_part lanes n) (others n (λ same. omega (arith, same, below))))

    pub behind : (k : ℕ) → found (seen block of_part lanes 0 (own + 1 + k)) ≡ sent_to v (lane_at lanes own).items
    behind zero =
        ap (λ (count : ℕ). found (seen block of_part lanes 0 count)) first_behind ∙ step own ∙ ap₂ (λ (first next : List ℕ). first ++ next) (before own (omega arith)) (last-own (lane_mail block of_part lanes own) of)
    behind (suc k) =
        ap (λ (count : ℕ). found (seen block of_part lanes 0 count)) (later k) ∙ step (own + 1 + k) ∙ ap₂ (λ (first next : List ℕ). first ++ next) (behind k)
        (last-none (lane_mail block of_part lanes (own + 1 + k)) (others (own + 1 + k) (λ same. omega (arith, same))))
        ∙ append-nil (sent_to v (lane_at lanes own).items)

pub all_delivered : (first sending : Sending) → HoldsAllSent first sending
all_delivered first sending mails block batches unsent sends are v vertex =
    let map = first.map in
    let lanes = sending.lanes in
    let own = lane_of map v in
    let count : length lanes ≡ map.parts * lanes_each map = sends.same_count ∙ unsent.count in
    let within : own < length lanes = omega (arith, lane_below map v vertex, count) in
    let told : each told_by batches ≡ lanes_with_mail block (lanes_each map) lanes =
    are.lanes ∙ ap (λ (map : PartMap). lanes_with_mail block (lanes_each map) lanes) sends.same_map in
    let all : (l : ℕ) → l < length lanes → (lane_at lanes l).items ≡ filter (goes_along map l) mails =
    λ l below. sends.more l (omega (arith, below, sends.same_count)) ∙ ap (λ (items : List Mail). items ++ filter (goes_along map l) mails) (unsent.none l) in
    let others : (l : ℕ) → l ≢ own → sent_to v (lane_at lanes l).items ≡ [] =
    λ l other. elim (cases_lt l (length lanes)) [
      | inl below ↦ ap (sent_to v) (all l below) ∙ sent-along_another map v l other mails
      | inr past ↦ ap (λ (lane : MailList). sent_to v lane.items) (get_or_past lanes l (record { items = []; room = 0 }) past)
    ] in
    let rest = length lanes - (own + 1) in
    let whole : length lanes ≡ own + 1 + rest = omega (arith, within) in
    ap (sent_to v) (batched-told (part_of map v) batches)
    ∙ ap (found v (part_of map v) block (lanes_each map) lanes) (told ∙ ap (seen block (lanes_each map) lanes 0) whole)
    ∙ behind v (part_of map v) block (lanes_each map) lanes own (lane_part map v vertex) others rest
    ∙ ap (sent_to v) (all own within) ∙ sent-along_its_lane map v mails

-- The lanes of an outbox, one of which changes.
use Rattle.std.proofs.Common.{◌≡◌, ◌≢◌, ℕ, zero, suc, ◌+◌, ◌-◌, ◌*◌, ◌/◌, ◌%◌, ◌<◌, ◌≤◌, ◌==◌, true, false, List, [], ◌∷◌, ◌++◌, length, get_or, map as each, set, refl, subst, sym, ap, ap₂, ◌∙◌, inl, inr, arith, eq-eqb, get_or-set_same, get_or-set_other, length-set, append-nil}
use Rattle.std.proofs.Math.Nat.{mul-le-mul_right}
use Rattle.std.proofs.lemmas.Bool.{cases_eq, cases_lt, ne_eqb}
use Rattle.std.proofs.lemmas.List.{get_or_default, map-append}
use Rattle.std.proofs.lemmas.List.Elements.{All-append, filter-append}
use Rattle.std.proofs.lemmas.List.FromFn.{map-range_with_len_more}
use Rattle.std.proofs.lemmas.Nat.{div-mul-add, mul-add-lt}
use Rattle.std.specs.Prelude.{All, filter, not}
use Rattle.std.specs.List.{range_with_len}
use Rattle.fg_batch.specs.declared.batch.Batch.{Batch}
use Rattle.fg_batch.specs.Lanes.{IsFor, lane_of, lanes_each}
use Rattle.fg_batch.specs.Mails.{MailList}
use Rattle.fg_batch.specs.Outbox.{AreAlong, IsAlong, IsForItsPart, IsOutbox, LaneMail, goes_along, has_mail, lane_at, lane_mail, told_by}
use Rattle.fg_model.specs.declared.mail.Mail.{Mail}
use Rattle.fg_part.specs.declared.part_map.PartMap.{PartMap}
use Rattle.fg_part.specs.PartMap.{block_size, block_total, blocks_in, part_of, place_of, places_in}
use Rattle.fg_part.proofs.Ceilings.{product_below, below_ceiling}
use Rattle.fg_part.proofs.PartMapLaws.{place_within}
use Rattle.std.proofs.Math.Nat.{div-lt_iff_lt-mul, mod-lt, mul_comm}

-- one lane has changed
module _ (lanes : List MailList) (at : ℕ) (now : MailList) (below : at < length lanes) where
  pub lane-same : lane_at (set lanes at now) at ≡ now
  lane-same = get_or-set_same lanes at now (record { items = []; room = 0 }) below

  pub lane-other : (l : ℕ) → l ≢ at → lane_at (set lanes at now) l ≡ lane_at lanes l
  lane-other l other = get_or-set_other lanes at l now (record { items = []; room = 0 }) other

  -- what holds of the changed lane and of all others as they were
  pub lane-each : (F : ℕ → MailList → Type 0) → F at now → ((l : ℕ) → l ≢ at → F l (lane_at lanes l)) → (l : ℕ) → F l (lane_at (set lanes at now) l)
  lane-each F here others l =
      elim (cases_eq l at) [
        | inl same ↦ subst (λ (k : ℕ). F k (lane_at (set lanes at now) k)) (sym same) (subst (F at) (sym lane-same) here)
        | inr other ↦ subst (F l) (sym (lane-other l other)) (others l other)
      ]

-- a message goes behind those of its lane
module _ (map : PartMap) (lanes : List MailList) (mail : Mail) (now : MailList) (vertex : mail.target < map.n) where
  abbrev lane : ℕ
  lane = lane_of map mail.target

  module _ (below : lane < length lanes) (is : now.items ≡ (lane_at lanes lane).items ++ mail ∷ []) where
    goes : (l : ℕ) → l ≡ lane → filter (goes_along map l) (mail ∷ []) ≡ mail ∷ []
    goes l same = rw (eq-eqb lane l (sym same)) refl

    goes-by : (l : ℕ) → l ≢ lane → filter (goes_along map l) (mail ∷ []) ≡ []
    goes-by l other = rw (ne_eqb lane l (λ same. other (sym same))) refl

    pub sent-more : (l : ℕ) → (lane_at (set lanes lane now) l).items ≡ (lane_at lanes l).items ++ filter (goes_along map l) (mail ∷ [])
    sent-more = lane-each lanes lane now below (λ l after. after.items ≡ (lane_at lanes l).items ++ filter (goes_along map l) (mail ∷ []))
        (is ∙ sym (ap (λ (mails : List Mail). (lane_at lanes lane).items ++ mails) (goes lane refl)))
        (λ l other. sym (ap (λ (mails : List Mail). (lane_at lanes l).items ++ mails) (goes-by l other) ∙ append-nil (lane_at lanes l).items))

    pub sent-along : AreAlong map lanes → AreAlong map (set lanes lane now)
    sent-along fits = lane-each lanes lane now below (λ l after. All (IsAlong map l) after.items)
        (subst (All (IsAlong map lane)) (sym is) (All-append (IsAlong map lane) (lane_at lanes lane).items (mail ∷ []) (fits lane) one))
        (λ l other. fits l)
      where
        one : All (IsAlong map lane) (mail ∷ [])
        one zero d inside = record { vertex = vertex; own = refl }
        one (suc k) d inside = absurd (omega (arith, inside))

-- which part a lane is of
module _ (map : PartMap) where
  most_blocks : (part : ℕ) → blocks_in map part ≤ blocks_in map 0
  most_blocks part =
      elim (cases_lt (blocks_in map 0) (blocks_in map part)) [
        | inl fewer ↦
            let there = product_below (blocks_in map 0) (block_total map - part) map.parts map.some_parts fewer in
            let more : blocks_in map 0 < blocks_in map 0 = below_ceiling (blocks_in map 0) (block_total map - 0) map.parts map.some_parts (omega (arith, there)) in
            absurd (omega (arith, more))
        | inr enough ↦ enough
      ]

  lane_within : (v : ℕ) → v < map.n → place_of map v / 65536 < lanes_each map
  lane_within v vertex =
      let place = place_within map map.some_parts v vertex in
      let most : places_in map (part_of map v) ≤ places_in map 0 = mul-le-mul_right (block_size map) (most_blocks (part_of map v)) in
      omega (arith, place, most)

  pub lane_below : (v : ℕ) → v < map.n → lane_of map v < map.parts * lanes_each map
  lane_below v vertex =
      let below = mul-add-lt (part_of map v) (lanes_each map) (place_of map v / 65536) map.parts (mod-lt _ map.some_parts) (lane_within v vertex) in
      omega (arith, below, mul_comm (lanes_each map) map.parts)

  pub lane_part : (v : ℕ) → v < map.n → lane_of map v / lanes_each map ≡ part_of map v
  lane_part v vertex = div-mul-add (part_of map v) (lanes_each map) (place_of map v / 65536) (lane_within v vertex)

  pub along-part : (l : ℕ) (mails : List Mail) → All (IsAlong map l) mails → All (IsFor map (l / lanes_each map)) mails
  along-part l mails along = λ k d below.
      let one = along k d below in
      record { vertex = one.vertex; own = sym (lane_part _ one.vertex) ∙ ap (λ (x : ℕ). x / lanes_each map) one.own }

-- one lane more is looked at
module _ (block of_part : ℕ) (lanes : List MailList) (at : ℕ) where
  abbrev pub seen : ℕ → List LaneMail
  seen count = filter has_mail (each (lane_mail block of_part lanes) (range_with_len 0 count))

  pub more : seen (at + 1) ≡ seen at ++ filter has_mail (lane_mail block of_part lanes at ∷ [])
  more =
      ap (filter has_mail) (map-range_with_len_more (lane_mail block of_part lanes) 0 at at (omega arith))
      ∙ filter-append has_mail (each (lane_mail block of_part lanes) (range_with_len 0 at)) (lane_mail block of_part lanes at ∷ [])

  pub lane-empty : (batches : List Batch) → each told_by batches ≡ seen at → (length (lane_at lanes at).items == 0) ≡ true → each told_by batches ≡ seen (at + 1)
  lane-empty batches is none =
      let test : has_mail (lane_mail block of_part lanes at) ≡ false = ap not none in
      let last : filter has_mail (lane_mail block of_part lanes at ∷ []) ≡ [] = rw test refl in
      is ∙ sym (more ∙ ap (λ (one : List LaneMail). seen at ++ one) last ∙ append-nil (seen at))

  pub lane-told : (batches : List Batch) (batch : Batch) → each told_by batches ≡ seen at → (length (lane_at lanes at).items == 0) ≡ false
      → told_by batch ≡ lane_mail block of_part lanes at → each told_by (batches ++ batch ∷ []) ≡ seen (at + 1)
  lane-told batches batch is some same =
      let test : has_mail (lane_mail block of_part lanes at) ≡ true = ap not some in
      let last : filter has_mail (lane_mail block of_part lanes at ∷ []) ≡ lane_mail block of_part lanes at ∷ [] = rw test refl in
      map-append told_by batches (batch ∷ [])
      ∙ ap (λ (told : List LaneMail). told ++ told_by batch ∷ []) is
      ∙ ap (λ (one : LaneMail). seen at ++ one ∷ []) same
      ∙ sym (more ∙ ap (λ (one : List LaneMail). seen at ++ one) last)

-- a lane that is read
pub lane-read : (lanes : List MailList) (at : ℕ) (was : MailList) → at < length lanes → was ≡ get_or lanes at was → was ≡ lane_at lanes at
lane-read lanes at was below is = is ∙ get_or_default lanes at was (record { items = []; room = 0 }) below

-- a vertex's lane is one of an outbox
module _ (map : PartMap) (lanes : List MailList) (of_part v part place : ℕ) (outbox : IsOutbox map of_part lanes) (vertex : v < map.n) (own : part ≡ part_of map v) (at : place ≡ place_of map v) where
  is_lane : part * of_part + place / 65536 ≡ lane_of map v
  is_lane = ap₂ (λ (p k : ℕ). p * of_part + k / 65536) own at ∙ ap (λ (e : ℕ). part_of map v * e + place_of map v / 65536) outbox.right

  lane_inside : lane_of map v < length lanes
  lane_inside = let count : length lanes ≡ map.parts * lanes_each map = outbox.count ∙ ap (λ (e : ℕ). map.parts * e) outbox.right in omega (arith, lane_below map v vertex, count)

  pub at_within : part * of_part + place / 65536 < length lanes
  at_within = omega (arith, is_lane, lane_inside)

  -- and it is an outbox with a message more
  pub outbox-sent : (message : ℕ) (was now : MailList) → was ≡ lane_at lanes (part * of_part + place / 65536)
      → now.items ≡ was.items ++ record { target = v; message = message } ∷ [] → IsOutbox map of_part (set lanes (part * of_part + place / 65536) now)
  outbox-sent message was now is more =
      let mail : Mail = record { target = v; message = message } in
      let behind : now.items ≡ (lane_at lanes (lane_of map v)).items ++ mail ∷ [] =
      more ∙ ap (λ (lane : MailList). lane.items ++ mail ∷ []) (is ∙ ap (lane_at lanes) is_lane) in
      subst (λ (x : ℕ). IsOutbox map of_part (set lanes x now)) (sym is_lane) (record {
        right = outbox.right;
        few = outbox.few;
        count = length-set lanes (lane_of map v) now ∙ outbox.count;
        fits = sent-along map lanes mail now vertex lane_inside behind outbox.fits;
      })

-- a message takes room for one
pub room-less : (lanes : List MailList) (at k : ℕ) (was now : MailList) → at < length lanes → was ≡ lane_at lanes at → was.room ≤ now.room + 1
    → ((l : ℕ) → l < length lanes → k + 1 ≤ (lane_at lanes l).room) → (l : ℕ) → l < length (set lanes at now) → k ≤ (lane_at (set lanes at now) l).room
room-less lanes at k was now below is less has l inside =
    lane-each lanes at now below (λ l after. l < length lanes → k ≤ after.room)
    (λ _. let same : was.room ≡ (lane_at lanes at).room = ap (λ (lane : MailList). lane.room) is in omega (arith, less, same, has at below))
    (λ l other there. omega (arith, has l there)) l (omega (arith, inside, length-set lanes at now))

-- the batch of a lane goes to its part
pub told-fit : (map : PartMap) (lanes : List MailList) (block of_part at : ℕ) → of_part ≡ lanes_each map → length lanes ≡ map.parts * of_part → at < length lanes
    → AreAlong map lanes → (batches : List Batch) (batch : Batch) → told_by batch ≡ lane_mail block of_part lanes at → All (IsForItsPart map) batches
    → All (IsForItsPart map) (batches ++ batch ∷ [])
told-fit map lanes block of_part at right count below along batches batch same fit = All-append (IsForItsPart map) batches (batch ∷ []) fit one
  where
    own : batch.part ≡ at / of_part
    own = ap (λ (told : LaneMail). told.part) same

    held : batch.mails.items ≡ (lane_at lanes at).items
    held = ap (λ (told : LaneMail). told.mails) same

    mine : All (IsFor map batch.part) batch.mails.items
    mine =
        subst (All (IsFor map batch.part)) (sym held)
        (subst (λ (part : ℕ). All (IsFor map part) (lane_at lanes at).items) (sym (own ∙ ap (λ (e : ℕ). at / e) right)) (along-part map at (lane_at lanes at).items (along at)))

    within : batch.part < map.parts
    within =
        let some : 0 < of_part = omega (arith, right) in
        let low : at / of_part < map.parts = (div-lt_iff_lt-mul some).1 (omega (arith, below, count)) in
        omega (arith, own, low)

    low : batch.lane < lanes_each map
    low =
        let some : 0 < of_part = omega (arith, right) in
        let rest : at % of_part < of_part = mod-lt at some in
        omega (arith, ap (λ (told : LaneMail). told.lane) same, rest, right)

    one : All (IsForItsPart map) (batch ∷ [])
    one zero d inside = record { part = within; lane = low; mails = mine }
    one (suc k) d inside = absurd (omega (arith, inside))

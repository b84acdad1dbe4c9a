-- The inboxes of all parts, which took a delivery or were emptied.
use Rattle.std.proofs.Common.{◌≡◌, ℕ, zero, suc, ◌+◌, ◌-◌, ◌*◌, ◌/◌, ◌%◌, ◌<◌, List, [], ◌∷◌, ◌++◌, Option, None, length, get_or, take, drop, length-set, refl, subst, sym, ap, ap₂, ◌∙◌, inl, inr, arith}
use Rattle.std.proofs.lemmas.Bool.{cases_lt}
use Rattle.std.proofs.lemmas.List.{get_or-map, get_or_past, take_at}
use Rattle.std.proofs.lemmas.List.Elements.{All-head, All-tail}
use Rattle.std.proofs.Math.Nat.{mod-lt}
use Rattle.std.proofs.lemmas.Nat.{div-mul-add, mod-mul-add, pow_pos}
use Rattle.std.specs.Prelude.{All}
use Rattle.fg_batch.specs.declared.batch.Batch.{Batch}
use Rattle.fg_batch.specs.Inbox.{Holding, held_in, with_all, with_mail}
use Rattle.fg_batch.specs.Lanes.{lanes_each}
use Rattle.fg_gather.specs.Arrivals.{AreInboxes, HasNone, IsEmptied, IsInboxOf, came_to, held_in_each}
use Rattle.fg_gather.specs.Deliver.{delivered, mail_for}
use Rattle.fg_model.specs.declared.mail.Mail.{Mail}
use Rattle.fg_model.specs.Program.{Rules}
use Rattle.fg_part.specs.declared.part_map.PartMap.{PartMap}
use Rattle.fg_part.specs.PartMap.{IsBlock, StandsIn, block_of, block_size, block_total, blocks_in, part_of, place_of, places_in}
use Rattle.fg_part.proofs.Ceilings.{product_below}
use Rattle.fg_part.proofs.PartMapLaws.{has_place, starts}

length-with_all : (P : Rules) (map : PartMap) (held : List (Option ℕ)) (mails : List Mail) → length (with_all P map held mails) ≡ length held
length-with_all P map held [] = refl
length-with_all P map held (mail ∷ mails) =
    length-with_all P map (with_mail P map held mail) mails ∙ length-set held (place_of map mail.target) _

pub held-of : {X : Type 0} (inboxes : List (Holding X)) (part : ℕ) (d : Holding X) → part < length inboxes → get_or (held_in_each inboxes) part [] ≡ (get_or inboxes part d).held
held-of inboxes part d below = get_or-map (λ inbox. inbox.held) inboxes part d [] below

-- no place of any part holds anything
all-none : {X : Type 0} (inboxes : List (Holding X)) → All HasNone inboxes → (part k : ℕ) → get_or (get_or (held_in_each inboxes) part []) k None ≡ None
all-none [] none part k = refl
all-none (inbox ∷ inboxes) none zero k =
    elim (cases_lt k (length inbox.held)) [
      | inl within ↦ All-head HasNone inbox inboxes none k None within
      | inr past ↦ get_or_past inbox.held k None past
    ]
all-none (inbox ∷ inboxes) none (suc part) k = all-none inboxes (All-tail HasNone inbox inboxes none) part k

pub none-to_any : {X : Type 0} (map : PartMap) (inboxes : List (Holding X)) → All HasNone inboxes → (v : ℕ) → came_to map (held_in_each inboxes) v ≡ None
none-to_any map inboxes none v = all-none inboxes none (part_of map v) (place_of map v)

pub count-of : {X : Type 0} (program : X) (map : PartMap) (inboxes : List (Holding X)) → AreInboxes program map inboxes → (part : ℕ) → part < map.parts
    → length (get_or (held_in_each inboxes) part []) ≡ places_in map part
count-of program map inboxes are part own =
    let d : Holding _ = record { program = program; map = map; part = 0; held = [] } in
    ap (λ (held : List (Option ℕ)). length held) (held-of inboxes part d (omega (arith, own, are.one_each))) ∙ (are.each_own part d own).count

module _ {X : Type 0} (rules : X → Rules) (program : X) (map : PartMap) (old new : List (Holding X)) (batches : List Batch) (are : AreInboxes program map old) (long : length new ≡ length old)
    (each : (part : ℕ) (d : Holding X) → part < length old → get_or new part d ≡ delivered (rules (get_or old part d).program) batches (get_or old part d)) where
  there : (part : ℕ) → part < map.parts → part < length old
  there part own = omega (arith, own, are.one_each)

  pub delivered-inboxes : AreInboxes program map new
  delivered-inboxes = record {
    one_each = long ∙ are.one_each;
    each_own = λ part d own.
        let was = are.each_own part d own in
        let inbox = get_or old part d in
        subst (IsInboxOf program map part) (sym (each part d (there part own))) (record {
          same_program = was.same_program;
          same_map = was.same_map;
          own = was.own;
          count = length-with_all (rules inbox.program) inbox.map inbox.held (mail_for inbox.part (lanes_each inbox.map) batches) ∙ was.count;
        });
  }

  pub delivered-took : (part : ℕ) → part < map.parts
      → get_or (held_in_each new) part [] ≡ with_all (rules program) map (get_or (held_in_each old) part []) (mail_for part (lanes_each map) batches)
  delivered-took part own =
      let d : Holding X = record { program = program; map = map; part = 0; held = [] } in
      let was = are.each_own part d own in
      let inbox = get_or old part d in
      held-of new part d (omega (arith, there part own, long))
      ∙ ap (λ (now : Holding X). now.held) (each part d (there part own))
      ∙ ap (λ (x : X). with_all (rules x) inbox.map inbox.held (mail_for inbox.part (lanes_each inbox.map) batches)) was.same_program
      ∙ ap (λ (m : PartMap). with_all (rules program) m inbox.held (mail_for inbox.part (lanes_each m) batches)) was.same_map
      ∙ ap (λ (p : ℕ). with_all (rules program) map inbox.held (mail_for p (lanes_each map) batches)) was.own
      ∙ ap (λ (held : List (Option ℕ)). with_all (rules program) map held (mail_for part (lanes_each map) batches)) (sym (held-of old part d (there part own)))

module _ {X : Type 0} (program : X) (map : PartMap) (old new : List (Holding X)) (are : AreInboxes program map old) (long : length new ≡ length old)
    (each : (part : ℕ) (d : Holding X) → part < length old → IsEmptied (get_or old part d) (get_or new part d)) where
  pub emptied-inboxes : AreInboxes program map new
  emptied-inboxes = record {
    one_each = long ∙ are.one_each;
    each_own = λ part d own.
        let was = are.each_own part d own in
        let now = each part d (omega (arith, own, are.one_each)) in
        record {
          same_program = now.same_program ∙ was.same_program;
          same_map = now.same_map ∙ was.same_map;
          own = now.same_part ∙ was.own;
          count = now.nothing.count ∙ ap (λ (m : PartMap). places_in m (get_or old part d).part) was.same_map ∙ ap (places_in map) was.own;
        };
  }

  pub emptied-none : All HasNone new
  emptied-none = λ part d below. (each part d (omega (arith, below, long))).nothing.none

-- the inbox of a block's part
module _ {X : Type 0} (program : X) (map : PartMap) (inboxes : List (Holding X)) (are : AreInboxes program map inboxes) (b : ℕ) (inbox : Holding X)
    (below : b < block_total map) (read : inbox ≡ get_or inboxes (b % map.parts) inbox) where
  part_inside : b % map.parts < map.parts
  part_inside = mod-lt b map.some_parts

  read-is : IsInboxOf program map (b % map.parts) inbox
  read-is = subst (IsInboxOf program map (b % map.parts)) (sym read) (are.each_own (b % map.parts) inbox part_inside)

  pub number-within : b / map.parts < blocks_in inbox.map inbox.part
  number-within =
      let block : IsBlock map b = starts map b (product_below b map.n (block_size map) (pow_pos map.shift) below) in
      let there : b / map.parts < blocks_in map (b % map.parts) = (has_place map map.some_parts b block).1 in
      subst (λ (m : PartMap). b / map.parts < blocks_in m inbox.part) (sym read-is.same_map) (subst (λ (p : ℕ). b / map.parts < blocks_in map p) (sym read-is.own) there)

  pub read-size : block_size inbox.map ≡ block_size map
  read-size = ap block_size read-is.same_map

  pub read-program : inbox.program ≡ program
  read-program = read-is.same_program

  pub places-read : (k : ℕ) → k < block_size map → came_to map (held_in_each inboxes) (b * block_size map + k) ≡ held_in inbox.map inbox.held (b / map.parts) k
  places-read k short =
      let v = b * block_size map + k in
      let here : block_of map v ≡ b = div-mul-add b (block_size map) k short in
      let rest : v % block_size map ≡ k = mod-mul-add b (block_size map) k short in
      let place : place_of map v ≡ b / map.parts * block_size map + k = ap₂ (λ (c r : ℕ). c / map.parts * block_size map + r) here rest in
      let held : get_or (held_in_each inboxes) (part_of map v) [] ≡ inbox.held =
      ap (λ (c : ℕ). get_or (held_in_each inboxes) (c % map.parts) []) here ∙ held-of inboxes (b % map.parts) inbox (omega (arith, part_inside, are.one_each))
      ∙ ap (λ (one : Holding X). one.held) (sym read) in
      ap (λ (xs : List (Option ℕ)). get_or xs (place_of map v) None) held
      ∙ ap (λ (j : ℕ). get_or inbox.held j None) place
      ∙ sym (ap (λ (m : PartMap). held_in m inbox.held (b / map.parts) k) read-is.same_map)

  -- a vertex of the block is at one of its places
  pub vertex-read : (v : ℕ) → StandsIn map b v → came_to map (held_in_each inboxes) v ≡ held_in inbox.map inbox.held (b / map.parts) (v - b * block_size map)
  vertex-read v stands =
      let k = v - b * block_size map in
      let there : b * block_size map + k ≡ v = omega (arith, stands.after) in
      ap (came_to map (held_in_each inboxes)) (sym there) ∙ places-read k (omega (arith, stands.after, stands.before))

-- a vector that was lent as a slice
pub whole-again : {X : Type 0} (new old : List X) (len : ℕ) → length new ≡ len → take len (new ++ drop (length new) old) ≡ new
whole-again new old len long = take_at new (drop (length new) old) len long

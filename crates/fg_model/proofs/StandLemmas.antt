-- Where a run stands: bids above a phase, and that the rises suffice.
use Rattle.std.proofs.Common.{◌≡◌, ℕ, zero, suc, ◌+◌, ◌<◌, ◌≤◌, ◌⊎◌, inl, inr, Bool, true, false, Option, None, Some, List, [], ◌∷◌, length, min, refl, ap, sym, subst, ◌∙◌, arith, zero-add}
use Rattle.std.specs.Prelude.{nat_lt, if◌then◌else◌}
use Rattle.std.specs.List.{filter_map, cons_option}
use Rattle.std.proofs.lemmas.Bool.Decides.{nat_tests}
use Rattle.fg_base.specs.declared.plain.VState.{VState}
use Rattle.fg_model.specs.declared.graph.Graph.{Graph}
use Rattle.fg_model.specs.Iteration.{AreStates, state_at}
use Rattle.fg_model.specs.Program.{Rules}
use Rattle.fg_model.specs.Run.{bid_above, is_some_active, least, least_bid_above, lesser, stand_from}
use Rattle.fg_model.specs.declared.stand.Stand.TheVariants.{Begins, Rests}

pub lesser_none : (one : Option ℕ) → lesser one None ≡ one
lesser_none None = refl
lesser_none (Some x) = refl

pub lesser_assoc : (one other third : Option ℕ) → lesser (lesser one other) third ≡ lesser one (lesser other third)
lesser_assoc None other third = refl
lesser_assoc (Some x) None third = refl
lesser_assoc (Some x) (Some y) None = refl
lesser_assoc (Some x) (Some y) (Some z) = let e : min (min x y) z ≡ min x (min y z) = omega arith in ap Some e

least_cons : (bid : Option ℕ) (f : VState → Option ℕ) (s : VState) (states : List VState) → f s ≡ bid → least (filter_map f (s ∷ states)) ≡ lesser bid (least (filter_map f states))
least_cons None f s states is = rw is refl
least_cons (Some x) f s states is = rw is refl

-- the least bid above a phase, one vertex more
pub least_bid_above-cons : (P : Rules) (phase : ℕ) (s : VState) (states : List VState) → least_bid_above P phase (s ∷ states) ≡ lesser (bid_above phase (P.bid s)) (least_bid_above P phase states)
least_bid_above-cons P phase s states = least_cons (bid_above phase (P.bid s)) (λ s. bid_above phase (P.bid s)) s states refl

-- how many bids are above a phase
abbrev pub bids_above : Rules → ℕ → List VState → ℕ
bids_above P phase states = length (filter_map (λ s. bid_above phase (P.bid s)) states)

-- one bid, counted
abbrev counted : Option ℕ → ℕ
counted None = 0
counted (Some x) = 1

counted_one : (o : Option ℕ) → counted o ≤ 1
counted_one None = omega arith
counted_one (Some x) = omega arith

length-cons : (o : Option ℕ) (xs : List ℕ) → length (cons_option o xs) ≡ counted o + length xs
length-cons None xs = sym (zero-add (length xs))
length-cons (Some x) xs = omega arith

-- a test of one bid, as a fact
test_true : (x y : ℕ) → nat_lt x y ≡ true → x < y
test_true x y is = grind (arith, nat_tests)

test_false : (x y : ℕ) → nat_lt x y ≡ false → y ≤ x
test_false x y is = grind (arith, nat_tests)

nat_cases : (x y : ℕ) → (x ≤ y) ⊎ (y ≤ x)
nat_cases x y = elim (nat_lt y x) as (λ b. nat_lt y x ≡ b → (x ≤ y) ⊎ (y ≤ x)) [ true ↦ λ is. inr (omega (arith, test_true y x is)) | false ↦ λ is. inl (test_false y x is) ] refl

-- a higher phase has no more bids above it
tested_less : (low high bid : ℕ) (of_high of_low : Bool) → nat_lt high bid ≡ of_high → nat_lt low bid ≡ of_low → low < high → counted (if of_high then Some bid else None) ≤ counted (if of_low then Some bid else None)
tested_less low high bid false of_low is_high is_low rises = omega arith
tested_less low high bid true true is_high is_low rises = omega arith
tested_less low high bid true false is_high is_low rises = absurd (omega (arith, test_true high bid is_high, test_false low bid is_low))

counted_less : (low high : ℕ) (bid : Option ℕ) → low < high → counted (bid_above high bid) ≤ counted (bid_above low bid)
counted_less low high None rises = omega arith
counted_less low high (Some bid) rises = tested_less low high bid (nat_lt high bid) (nat_lt low bid) refl refl rises

bids_less : (P : Rules) (low high : ℕ) (states : List VState) → low < high → bids_above P high states ≤ bids_above P low states
bids_less P low high [] rises = omega arith
bids_less P low high (s ∷ states) rises =
    omega (
      arith,
      bids_less P low high states rises,
      counted_less low high (P.bid s) rises,
      length-cons (bid_above high (P.bid s)) (filter_map (λ s. bid_above high (P.bid s)) states),
      length-cons (bid_above low (P.bid s)) (filter_map (λ s. bid_above low (P.bid s)) states),
    )

-- the least bid is above the phase, and a rise to it leaves it behind
pub record Rises (phase bid above_bid above_phase : ℕ) : Type 0 where
  pub higher : phase < bid
  pub fewer : above_bid < above_phase

tested_self : (phase bid : ℕ) (of_phase of_bid : Bool) → nat_lt phase bid ≡ of_phase → nat_lt bid bid ≡ of_bid → (least : ℕ) → (if of_phase then Some bid else None) ≡ Some least → (phase < least) × (bid ≡ least) × (counted (if of_bid then Some bid else None) ≡ 0)
tested_self phase bid false of_bid is_phase is_bid least is = cc
tested_self phase bid true true is_phase is_bid least is = absurd (omega (arith, test_true bid bid is_bid))
tested_self phase bid true false is_phase is_bid least is =
    let same : bid ≡ least = cc in
    (omega (arith, test_true phase bid is_phase), same, refl)

counted_self : (phase : ℕ) (bid : Option ℕ) (least : ℕ) → bid_above phase bid ≡ Some least → (phase < least) × (counted (bid_above least bid) ≡ 0)
counted_self phase None least is = cc
counted_self phase (Some bid) least is =
    let t = tested_self phase bid (nat_lt phase bid) (nat_lt bid bid) refl refl least is in
    (t.0, let Q : ℕ → Type 0 = λ n. counted (bid_above n (Some bid)) ≡ 0 in subst Q t.1 t.2)

least_rises-cons : (P : Rules) (phase bid : ℕ) (s : VState) (states : List VState) (here rest : Option ℕ)
    → bid_above phase (P.bid s) ≡ here
    → least_bid_above P phase states ≡ rest
    → lesser here rest ≡ Some bid
    → (rest ≡ Some bid → Rises phase bid (bids_above P bid states) (bids_above P phase states))
    → Rises phase bid (counted (bid_above bid (P.bid s)) + bids_above P bid states) (counted (bid_above phase (P.bid s)) + bids_above P phase states)
least_rises-cons P phase bid s states None rest is is_rest is_bid later =
    let r = later is_bid in
    record { higher = r.higher; fewer = omega (arith, r.fewer, counted_less phase bid (P.bid s) r.higher) }
least_rises-cons P phase bid s states (Some x) None is is_rest is_bid later =
    let self = counted_self phase (P.bid s) bid (is ∙ is_bid) in
    record { higher = self.0; fewer = omega (arith, self.1, ap counted is, bids_less P phase bid states self.0) }
least_rises-cons P phase bid s states (Some x) (Some y) is is_rest is_bid later =
    let least : min x y ≡ bid = cc in
    elim (nat_cases x y) [
      | inl low ↦ let same : x ≡ bid = omega arith in
          let self = counted_self phase (P.bid s) bid (is ∙ ap Some same) in
          record { higher = self.0; fewer = omega (arith, self.1, ap counted is, bids_less P phase bid states self.0) }
      | inr high ↦ let same : y ≡ bid = omega arith in
          let r = later (ap Some same) in
          record { higher = r.higher; fewer = omega (arith, r.fewer, counted_less phase bid (P.bid s) r.higher) }
    ]

pub least_rises : (P : Rules) (phase bid : ℕ) (states : List VState) → least_bid_above P phase states ≡ Some bid → Rises phase bid (bids_above P bid states) (bids_above P phase states)
least_rises P phase bid [] is = cc
least_rises P phase bid (s ∷ states) is =
    let r = least_rises-cons P phase bid s states (bid_above phase (P.bid s)) (least_bid_above P phase states) refl refl
    (sym (least_bid_above-cons P phase s states) ∙ is) (λ rest. least_rises P phase bid states rest) in
    record {
      higher = r.higher;
      fewer = omega (
        arith,
        r.fewer,
        length-cons (bid_above bid (P.bid s)) (filter_map (λ s. bid_above bid (P.bid s)) states),
        length-cons (bid_above phase (P.bid s)) (filter_map (λ s. bid_above phase (P.bid s)) states),
      );
    }

-- there are at most as many bids as vertices, and with none above there is no least one
pub bids-length : (P : Rules) (phase : ℕ) (states : List VState) → bids_above P phase states ≤ length states
bids-length P phase [] = omega arith
bids-length P phase (s ∷ states) =
    omega (arith, bids-length P phase states, counted_one (bid_above phase (P.bid s)), length-cons (bid_above phase (P.bid s)) (filter_map (λ s. bid_above phase (P.bid s)) states))

none_of_no : (xs : List ℕ) → length xs ≤ 0 → least xs ≡ None
none_of_no [] empty = refl
none_of_no (x ∷ xs) empty = absurd (omega arith)

pub no_bids : (P : Rules) (phase : ℕ) (states : List VState) → bids_above P phase states ≤ 0 → least_bid_above P phase states ≡ None
no_bids P phase states empty = none_of_no (filter_map (λ s. bid_above phase (P.bid s)) states) empty

-- one step of the definition
pub stand-active : (rises : ℕ) (P : Rules) (phase : ℕ) (states : List VState) → is_some_active P phase states ≡ true → stand_from rises P phase states ≡ Begins phase
unfolding stand_from
stand-active zero P phase states active = rw active refl
stand-active (suc rises) P phase states active = rw active refl

pub stand-rests : (rises : ℕ) (P : Rules) (phase : ℕ) (states : List VState) → is_some_active P phase states ≡ false → least_bid_above P phase states ≡ None → stand_from rises P phase states ≡ Rests phase
unfolding stand_from
stand-rests zero P phase states idle none = rw (idle, none) refl
stand-rests (suc rises) P phase states idle none = rw (idle, none) refl

pub stand-rises : (left rises : ℕ) (P : Rules) (phase bid : ℕ) (states : List VState) → left ≡ suc rises → is_some_active P phase states ≡ false → least_bid_above P phase states ≡ Some bid → stand_from left P phase states ≡ stand_from rises P bid states
unfolding stand_from
stand-rises left rises P phase bid states is idle some = rw (is, idle, some) refl

-- states of a graph, for a graph and states that are the same
pub are_moved : (graph moved : Graph) (states moved_states : List VState) → moved ≡ graph → moved_states ≡ states → AreStates graph.n states → AreStates moved.n moved_states
are_moved graph moved states moved_states same_graph same_states are = rw (same_graph, same_states) are

-- the least bid is at most each bid above the phase
abbrev pub LowAt : Option ℕ → ℕ → Type 0
LowAt None x = ⊥
LowAt (Some y) x = y ≤ x

low_here : (x : ℕ) (one other : Option ℕ) → one ≡ Some x → LowAt (lesser one other) x
low_here x None other is = absurd (cc)
low_here x (Some y) None is = let e : y ≡ x = cc in omega (arith, e)
low_here x (Some y) (Some z) is = let e : y ≡ x = cc in omega (arith, e)

low_there : (x : ℕ) (one other : Option ℕ) → LowAt other x → LowAt (lesser one other) x
low_there x None other low = low
low_there x (Some y) None low = absurd low
low_there x (Some y) (Some z) low = omega (arith, low)

pub least_low : (P : Rules) (phase x v : ℕ) (states : List VState) → v < length states → bid_above phase (P.bid (state_at states v)) ≡ Some x → LowAt (least_bid_above P phase states) x
least_low P phase x v [] below is = absurd (omega arith)
least_low P phase x zero (s ∷ states) below is =
    let Is : Option ℕ → Type 0 = λ o. LowAt o x in
    subst Is (sym (least_bid_above-cons P phase s states)) (low_here x (bid_above phase (P.bid s)) (least_bid_above P phase states) is)
least_low P phase x (suc v) (s ∷ states) below is =
    let Is : Option ℕ → Type 0 = λ o. LowAt o x in
    subst Is (sym (least_bid_above-cons P phase s states)) (low_there x (bid_above phase (P.bid s)) (least_bid_above P phase states) (least_low P phase x v states (omega arith) is))

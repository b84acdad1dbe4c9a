-- What each call posts: the shares afterwards, that they are sound, and that the halves of a cut sum to the whole.
use Rattle.std.proofs.Common.{◌≡◌, ◌≢◌, ℕ, zero, suc, ◌+◌, ◌-◌, ◌<◌, ◌≤◌, ◌⊎◌, [], ◌∷◌, refl, sym, ap, ◌∙◌, subst, inl, inr, ⊎_elim, arith}
use Rattle.std.proofs.lemmas.Int.{ints}
use Rattle.std.proofs.lemmas.Bool.{cases_lt}
use lib.IntN.{ℤ, pos, ◌+ℤ◌, ◌-ℤ◌}
use lib.Signed.{◌≤ℤ◌}
use lib.ListN.{get_elem?}
use mathlib.Core.Option.{some, some-injective, some-ne-none}
use Rattle.atomic_table.specs.Table.{Splits}
use Rattle.fg_books.specs.declared.account.Plan.{Plan}
use Rattle.fg_books.specs.declared.account.Posting.{Posting}
use Rattle.fg_books.specs.declared.account.Account.{Account}
use Rattle.fg_books.specs.Shares.{sum_in, parts_in, amount_in, IsSoundShare, IsSound, magnitude}
use Rattle.fg_books.specs.Rules.{Balanced, Keeps, opening_of, posting, joined, posted, cut_left, cut_right, payer, payee}
use Rattle.fg_books.proofs.Sums.{sum_in-append, single_in, single_out, single_none, magnitude_is}
use Rattle.fg_books.proofs.Keeping.{divides}

abbrev parts : Posting → ℤ
parts p = p.parts

abbrev amount : Posting → ℤ
amount p = p.amount

-- the parts of an account's share, as a natural number
abbrev pub parts_at : Account → ℕ → ℕ
parts_at a k = magnitude (parts_in a.postings k)

abbrev Within : ℕ → ℕ → ℕ → Type 0
Within first count k = (first ≤ k) × (k < first + count)

abbrev Beside : ℕ → ℕ → ℕ → Type 0
Beside first count k = (k < first) ⊎ (first + count ≤ k)

side : (first count k : ℕ) → Within first count k ⊎ Beside first count k
side first count k =
    ⊎_elim (λ low. inr (inl low)) (λ ge. ⊎_elim (λ lt. inl (ge, lt)) (λ far. inr (inr far)) (cases_lt k (first + count))) (cases_lt k first)

pub parts_are : (plan : Plan) (a : Account) → IsSound plan a.postings → (k : ℕ) → parts_in a.postings k ≡ pos (parts_at a k)
parts_are plan a sound k = magnitude_is _ (sound k).some_or_none

-- one more posting
module _ (v : Account) (q : Posting) (k : ℕ) where
  more : (f : Posting → ℤ) → sum_in f (posted v q).postings k ≡ sum_in f v.postings k +ℤ sum_in f (q ∷ []) k
  more f = sum_in-append f v.postings (q ∷ []) k

  more_in : (f : Posting → ℤ) → Within q.first q.count k → sum_in f (posted v q).postings k ≡ sum_in f v.postings k +ℤ f q
  more_in f h = more f ∙ ap (λ z. sum_in f v.postings k +ℤ z) (single_in f q k h.0 h.1)

  more_out : (f : Posting → ℤ) → Beside q.first q.count k → sum_in f (posted v q).postings k ≡ sum_in f v.postings k
  more_out f h = let a = more f in let b = single_out f q k h in omega (arith, ints)

  more_none : (f : Posting → ℤ) → f q ≡ pos 0 → sum_in f (posted v q).postings k ≡ sum_in f v.postings k
  more_none f e = let a = more f in let b = single_none f q k e in omega (arith, ints)

-- a cut of n parts
module _ (plan : Plan) (v : Account) (first count n : ℕ) where
  abbrev left : Account
  left = cut_left v first count n

  abbrev right : Account
  right = cut_right v first count n

  abbrev taken : Posting
  taken = posting first count (pos 0 -ℤ pos n) (pos 0)

  abbrev given : Posting
  given = posting first count (pos n) (pos 0)

  left_in : (k : ℕ) → Within first count k → parts_in left.postings k +ℤ pos n ≡ parts_in v.postings k
  left_in k h = let a = more_in v taken k parts h in omega (arith, ints)

  left_out : (k : ℕ) → Beside first count k → parts_in left.postings k ≡ parts_in v.postings k
  left_out k h = more_out v taken k parts h

  pub left_amount : (k : ℕ) → amount_in left.postings k ≡ amount_in v.postings k
  left_amount k = more_none v taken k amount refl

  right_in : (k : ℕ) → Within first count k → parts_in right.postings k ≡ pos n
  right_in k h = single_in parts given k h.0 h.1

  right_out : (k : ℕ) → Beside first count k → parts_in right.postings k ≡ pos 0
  right_out k h = single_out parts given k h

  pub right_amount : (k : ℕ) → amount_in right.postings k ≡ pos 0
  right_amount k = single_none amount given k refl

  pub right_parts : (k : ℕ) → first ≤ k → k < first + count → parts_at right k ≡ n
  right_parts k low high = ap magnitude (right_in k (low, high))

  pub right_others : (k : ℕ) → Beside first count k → parts_at right k ≡ 0
  right_others k h = ap magnitude (right_out k h)

  pub left_others : (k : ℕ) → Beside first count k → parts_at left k ≡ parts_at v k
  left_others k h = ap magnitude (left_out k h)

  module _ (sound : IsSound plan v.postings) (enough : (k : ℕ) → first ≤ k → k < first + count → n ≤ parts_at v k)
      (settled : (k : ℕ) → first ≤ k → k < first + count → parts_at v k ≡ n → amount_in v.postings k ≡ pos 0) where
    pub left_rest : (k : ℕ) → first ≤ k → k < first + count → parts_at left k + n ≡ parts_at v k
    left_rest k low high =
        let had = parts_are plan v sound k in
        let e = enough k low high in
        let rest = left_in k (low, high) in
        let is : parts_in left.postings k ≡ pos (parts_at v k - n) = omega (arith, ints) in
        let m : parts_at left k ≡ parts_at v k - n = ap magnitude is in
        omega arith

    left_sound_in : (k : ℕ) → Within first count k → IsSoundShare plan k (parts_in left.postings k) (amount_in left.postings k)
    left_sound_in k h =
        let had = parts_are plan v sound k in
        let e = enough k h.0 h.1 in
        let rest = left_in k h in
        let same = left_amount k in
        record {
          some_or_none = omega (arith, ints);
          owes_nothing = λ none. let z = settled k h.0 h.1 (omega (arith, ints)) in omega (arith, ints);
          owns_nothing = λ none _. let z = settled k h.0 h.1 (omega (arith, ints)) in omega (arith, ints);
        }

    left_sound_out : (k : ℕ) → Beside first count k → IsSoundShare plan k (parts_in left.postings k) (amount_in left.postings k)
    left_sound_out k h =
        let s = sound k in
        let p = left_out k h in
        let a = left_amount k in
        record {
          some_or_none = let o = s.some_or_none in omega (arith, ints);
          owes_nothing = λ none. let o = s.owes_nothing (omega (arith, ints)) in omega (arith, ints);
          owns_nothing = λ none closed. let o = s.owns_nothing (omega (arith, ints)) closed in omega (arith, ints);
        }

    pub left_sound : IsSound plan left.postings
    left_sound k = ⊎_elim (left_sound_in k) (left_sound_out k) (side first count k)

  right_some : (k : ℕ) → pos 0 ≤ℤ parts_in right.postings k
  right_some k =
      ⊎_elim (λ h. let e = right_in k h in omega (arith, ints)) (λ h. let e = right_out k h in omega (arith, ints)) (side first count k)

  pub right_sound : IsSound plan right.postings
  right_sound k =
      let a = right_amount k in
      record { some_or_none = right_some k; owes_nothing = λ _. omega (arith, ints); owns_nothing = λ _ _. a }

  cut_parts : (k : ℕ) → parts_in left.postings k +ℤ parts_in right.postings k ≡ parts_in v.postings k
  cut_parts k =
      ⊎_elim (λ h. let a = left_in k h in let b = right_in k h in omega (arith, ints))
      (λ h. let a = left_out k h in let b = right_out k h in omega (arith, ints))
      (side first count k)

  cut_amounts : (k : ℕ) → amount_in left.postings k +ℤ amount_in right.postings k ≡ amount_in v.postings k
  cut_amounts k = let a = left_amount k in let b = right_amount k in omega (arith, ints)

  pub cuts : (id : ℕ) → IsSound plan left.postings → Splits {S = Unit {0}} (Keeps plan) id v left right
  cuts id sound = divides plan id v left right cut_parts cut_amounts sound right_sound

-- a join, and the cut back
module _ (plan : Plan) (v w : Account) where
  pub joined_amount : (k : ℕ) → amount_in (joined v w).postings k ≡ amount_in v.postings k +ℤ amount_in w.postings k
  joined_amount k = sum_in-append amount v.postings w.postings k

  joined_sum : (k : ℕ) → parts_in (joined v w).postings k ≡ parts_in v.postings k +ℤ parts_in w.postings k
  joined_sum k = sum_in-append parts v.postings w.postings k

  module _ (v_sound : IsSound plan v.postings) (w_sound : IsSound plan w.postings) where
    pub joined_is : (k : ℕ) → parts_in (joined v w).postings k ≡ pos (parts_at v k + parts_at w k)
    joined_is k =
        let a = parts_are plan v v_sound k in
        let b = parts_are plan w w_sound k in
        let c = joined_sum k in
        omega (arith, ints)

    pub joined_parts : (k : ℕ) → parts_at (joined v w) k ≡ parts_at v k + parts_at w k
    joined_parts k = ap magnitude (joined_is k)

    pub cuts_back : (id : ℕ) → Splits {S = Unit {0}} (Keeps plan) id (joined v w) v w
    cuts_back id = divides plan id (joined v w) v w (λ k. sym (joined_sum k)) (λ k. sym (joined_amount k)) v_sound w_sound

-- a payment
module _ (plan : Plan) (v w : Account) (ledger by : ℕ) where
  abbrev from : Account
  from = payer v ledger by

  abbrev to : Account
  to = payee w ledger by

  abbrev minus : Posting
  minus = posting ledger 1 (pos 0) (pos 0 -ℤ pos by)

  abbrev plus : Posting
  plus = posting ledger 1 (pos 0) (pos by)

  here : Within ledger 1 ledger
  here = (omega arith, omega arith)

  there : (k : ℕ) → k ≢ ledger → Beside ledger 1 k
  there k ne = ⊎_elim (λ low. inl low) (λ ge. inr (omega arith)) (cases_lt k ledger)

  from_sum : (k : ℕ) → parts_in from.postings k ≡ parts_in v.postings k
  from_sum k = more_none v minus k parts refl

  to_sum : (k : ℕ) → parts_in to.postings k ≡ parts_in w.postings k
  to_sum k = more_none w plus k parts refl

  pub from_parts : (k : ℕ) → parts_at from k ≡ parts_at v k
  from_parts k = ap magnitude (from_sum k)

  pub to_parts : (k : ℕ) → parts_at to k ≡ parts_at w k
  to_parts k = ap magnitude (to_sum k)

  pub lowered : amount_in from.postings ledger ≡ amount_in v.postings ledger -ℤ pos by
  lowered = let a = more_in v minus ledger amount here in omega (arith, ints)

  pub raised : amount_in to.postings ledger ≡ amount_in w.postings ledger +ℤ pos by
  raised = more_in w plus ledger amount here

  pub from_others : (k : ℕ) → k ≢ ledger → amount_in from.postings k ≡ amount_in v.postings k
  from_others k ne = more_out v minus k amount (there k ne)

  pub to_others : (k : ℕ) → k ≢ ledger → amount_in to.postings k ≡ amount_in w.postings k
  to_others k ne = more_out w plus k amount (there k ne)

  paid_parts : (k : ℕ) → parts_in from.postings k +ℤ parts_in to.postings k ≡ parts_in (joined v w).postings k
  paid_parts k =
      let a = from_sum k in
      let b = to_sum k in
      let c = sum_in-append parts v.postings w.postings k in
      omega (arith, ints)

  paid_amounts : (k : ℕ) → amount_in from.postings k +ℤ amount_in to.postings k ≡ amount_in (joined v w).postings k
  paid_amounts k =
      let c = sum_in-append amount v.postings w.postings k in
      ⊎_elim (λ h. let a = more_in v minus k amount h in let b = more_in w plus k amount h in omega (arith, ints))
      (λ h. let a = more_out v minus k amount h in let b = more_out w plus k amount h in omega (arith, ints))
      (side ledger 1 k)

  -- a share that is as before but for its amount, where it has a part or the ledger allows the amount
  moved : (k : ℕ) (p a p' a' : ℤ) → IsSoundShare plan k p a → p' ≡ p → (a' ≡ a) ⊎ ((p ≢ pos 0) ⊎ ((k < plan.loose) × (a ≤ℤ a'))) → IsSoundShare plan k p' a'
  moved k p a p' a' s e (inl same) = record {
    some_or_none = let o = s.some_or_none in omega (arith, ints);
    owes_nothing = λ none. let o = s.owes_nothing (omega (arith, ints)) in omega (arith, ints);
    owns_nothing = λ none closed. let o = s.owns_nothing (omega (arith, ints)) closed in omega (arith, ints);
  }
  moved k p a p' a' s e (inr (inl has)) = record {
    some_or_none = let o = s.some_or_none in omega (arith, ints);
    owes_nothing = λ none. absurd (has (omega (arith, ints)));
    owns_nothing = λ none _. absurd (has (omega (arith, ints)));
  }
  moved k p a p' a' s e (inr (inr t)) = record {
    some_or_none = let o = s.some_or_none in omega (arith, ints);
    owes_nothing = λ none. let o = s.owes_nothing (omega (arith, ints)) in let more = t.1 in omega (arith, ints);
    owns_nothing = λ none closed. let open_there = t.0 in absurd (omega arith);
  }

  same_or_here : (k : ℕ) → (k ≢ ledger) ⊎ (k ≡ ledger)
  same_or_here k = ⊎_elim (λ low. inl (λ e. omega arith)) (λ ge. ⊎_elim (λ high. inl (λ e. omega arith)) (λ le. inr (omega arith)) (cases_lt ledger k)) (cases_lt k ledger)

  pub from_sound : IsSound plan v.postings → 1 ≤ parts_at v ledger → IsSound plan from.postings
  from_sound sound part k =
      moved k (parts_in v.postings k) (amount_in v.postings k) _ _ (sound k) (from_sum k)
      (⊎_elim (λ ne. inl (from_others k ne)) (λ e. inr (inl (λ none. let z : parts_at v ledger ≡ 0 = ap (parts_at v) (sym e) ∙ ap magnitude none in omega arith))) (same_or_here k))

  to_here : (k : ℕ) → k ≡ ledger → (1 ≤ parts_at w ledger) ⊎ (ledger < plan.loose)
      → (parts_in w.postings k ≢ pos 0) ⊎ ((k < plan.loose) × (amount_in w.postings k ≤ℤ amount_in to.postings k))
  to_here k e (inl part) = inl (λ none. let z : parts_at w ledger ≡ 0 = ap (parts_at w) (sym e) ∙ ap magnitude none in omega arith)
  to_here k e (inr open_there) =
      let a = more_in w plus k amount (omega arith, omega arith) in
      inr (omega arith, omega (arith, ints))

  pub to_sound : IsSound plan w.postings → (1 ≤ parts_at w ledger) ⊎ (ledger < plan.loose) → IsSound plan to.postings
  to_sound sound part k =
      moved k (parts_in w.postings k) (amount_in w.postings k) _ _ (sound k) (to_sum k)
      (⊎_elim (λ ne. inl (to_others k ne)) (λ e. inr (to_here k e part)) (same_or_here k))

  pub pays : (id : ℕ) → IsSound plan from.postings → IsSound plan to.postings → Splits {S = Unit {0}} (Keeps plan) id (joined v w) from to
  pays id from_sound to_sound = divides plan id (joined v w) from to paid_parts paid_amounts from_sound to_sound

-- the beginning
module _ (plan : Plan) where
  abbrev all : Posting
  all = posting 0 plan.ledgers (pos plan.parts) (pos 0)

  pub opening_amount : (k : ℕ) → amount_in (opening_of plan).postings k ≡ pos 0
  opening_amount k = single_none amount all k refl

  opening_in : (k : ℕ) → k < plan.ledgers → parts_in (opening_of plan).postings k ≡ pos plan.parts
  opening_in k h = single_in parts all k (omega arith) (omega arith)

  pub opening_parts : (k : ℕ) → k < plan.ledgers → parts_at (opening_of plan) k ≡ plan.parts
  opening_parts k h = ap magnitude (opening_in k h)

  opening_some : (k : ℕ) → pos 0 ≤ℤ parts_in (opening_of plan).postings k
  opening_some k =
      ⊎_elim (λ h. let e = single_in parts all k h.0 h.1 in omega (arith, ints)) (λ h. let e = single_out parts all k h in omega (arith, ints))
      (side 0 plan.ledgers k)

  pub opening_sound : IsSound plan (opening_of plan).postings
  opening_sound k =
      let a = opening_amount k in
      record { some_or_none = opening_some k; owes_nothing = λ _. omega (arith, ints); owns_nothing = λ _ _. a }

  only : (id : ℕ) (a : Account) → get_elem? (opening_of plan ∷ []) id ≡ some a → IsSound plan a.postings
  only zero a e = subst (λ (x : Account). IsSound plan x.postings) (some-injective (opening_of plan) a e) opening_sound
  only (suc id) a e = absurd (some-ne-none a (sym e))

  pub opens : Balanced plan (opening_of plan ∷ [])
  opens = record {
    amounts = λ k. let a = opening_amount k in omega (arith, ints);
    parts = λ k h. let p = opening_in k h in omega (arith, ints);
    sound = only;
  }

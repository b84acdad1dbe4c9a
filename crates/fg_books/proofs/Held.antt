-- From a lot, as contracts see it, to its account and back.
use Rattle.std.proofs.Common.{◌≡◌, ◌≢◌, ℕ, ◌+◌, ◌<◌, ◌≤◌, ◌⊎◌, List, [], ◌∷◌, sym, ap, ◌∙◌, subst, arith}
use lib.IntN.{ℤ, pos, ◌+ℤ◌, ◌-ℤ◌}
use lib.Signed.{◌≤ℤ◌}
use Rattle.atomic_table.specs.Table.{Splits}
use Rattle.atomic_table.specs.declared.badge.Badge.{Badge}
use Rattle.atomic_table.specs.Seated.{TableId}
use Rattle.fg_books.specs.declared.account.Plan.{Plan}
use Rattle.fg_books.specs.declared.account.Account.{Account}
use Rattle.fg_books.specs.Shares.{BooksId, Holding, parts_in, amount_in, IsSound, IsHeld, account_of, holding_of, parts_of, amount_of}
use Rattle.fg_books.specs.Rules.{Keeps, joined, cut_left, cut_right, payer, payee, Tells}
use Rattle.fg_books.proofs.Keeping.{sound-append}
use Rattle.fg_books.proofs.Postings.{parts_at, left_amount, right_amount, right_parts, right_others, left_others, left_rest, left_sound, right_sound, cuts, joined_amount, joined_is, joined_parts, cuts_back, from_parts, to_parts, lowered, raised, from_others, to_others, from_sound, to_sound, pays}

pub held_sound : (views : List Account) (plan : Plan) → IsHeld views → (account_of views).plan ≡ plan → IsSound plan (account_of views).postings
held_sound views plan h own =
    subst (λ (p : Plan). IsSound p (account_of views).postings) own
    (subst (λ (vs : List Account). IsSound (account_of vs).plan (account_of vs).postings) (sym h.1) h.2)

pub held : (views : List Account) (a : Account) (plan : Plan) → views ≡ a ∷ [] → plan ≡ a.plan → IsSound plan a.postings → IsHeld views
held views a plan e own sound = (a, e, subst (λ (p : Plan). IsSound p a.postings) own sound)

pub one_account : (views : List Account) → IsHeld views → (v : Account) × (views ≡ v ∷ [])
one_account views h = (h.0, h.1)

module _ (t : TableId) (views : List Account) (h : Holding) (is : holding_of t views ≡ h) where
  pub parts_from : (k : ℕ) → parts_at (account_of views) k ≡ parts_of h k
  unfolding parts_of
  parts_from k = ap (λ (x : Holding). parts_of x k) is

  pub amounts_from : (k : ℕ) → amount_in (account_of views).postings k ≡ amount_of h k
  unfolding amount_of
  amounts_from k = ap (λ (x : Holding). amount_of x k) is

  pub plan_from : (b : BooksId) → h.books ≡ b → (account_of views).plan ≡ b.plan
  plan_from b own = ap (λ (x : Holding). x.books.plan) is ∙ ap (λ (x : BooksId). x.plan) own

  pub table_from : (b : BooksId) → h.books ≡ b → t ≡ b.table
  table_from b own = ap (λ (x : Holding). x.books.table) is ∙ ap (λ (x : BooksId). x.table) own

module _ (t : TableId) (views : List Account) (a : Account) (is : views ≡ a ∷ []) where
  pub parts_to : (k : ℕ) → parts_of (holding_of t views) k ≡ parts_at a k
  unfolding parts_of
  parts_to k = ap (λ (vs : List Account). parts_at (account_of vs) k) is

  pub amounts_to : (k : ℕ) → amount_of (holding_of t views) k ≡ amount_in a.postings k
  unfolding amount_of
  amounts_to k = ap (λ (vs : List Account). amount_in (account_of vs).postings k) is

-- a badge x that was told of the badge y of a lot
module _ (x y : Badge Account) (same : x ≡ y) (g : Holding) (is : holding_of y.table_id y.views ≡ g) (h : IsHeld y.views) where
  pub copy_is : holding_of x.table_id x.views ≡ g
  copy_is = ap (λ (b : Badge Account). holding_of b.table_id b.views) same ∙ is

  pub copy_held : IsHeld x.views
  copy_held = subst (λ (b : Badge Account). IsHeld b.views) (sym same) h

-- the account after a join, by the badges x and x' that were told of y and y'
pub joined_copies : (x y x' y' : Badge Account) (v : Account) → x ≡ y → x' ≡ y' → v ≡ joined (account_of y.views) (account_of y'.views)
    → v ≡ joined (account_of x.views) (account_of x'.views)
joined_copies x y x' y' v e e' is = is ∙ sym (λ i. joined (account_of (e i).views) (account_of (e' i).views))

pub splits_of : (plan : Plan) (id : ℕ) (v w left right : Account) → v ≡ w → Splits {S = Unit {0}} (Keeps plan) id w left right → Splits {S = Unit {0}} (Keeps plan) id v left right
splits_of plan id v w left right e h = subst (λ (u : Account). Splits {S = Unit {0}} (Keeps plan) id u left right) (sym e) h

-- What a cut of n parts makes of the lot g: the lot r with the rest, and the lot c.
pub record IsCut (g r c : Holding) (first count n : ℕ) : Type 0 where
  pub cut : (k : ℕ) → first ≤ k → k < first + count → parts_of c k ≡ n
  pub rest : (k : ℕ) → first ≤ k → k < first + count → parts_of r k + n ≡ parts_of g k
  pub no_others : (k : ℕ) → (k < first) ⊎ (first + count ≤ k) → parts_of c k ≡ 0
  pub others : (k : ℕ) → (k < first) ⊎ (first + count ≤ k) → parts_of r k ≡ parts_of g k
  pub no_amounts : (k : ℕ) → amount_of c k ≡ pos 0
  pub amounts : (k : ℕ) → amount_of r k ≡ amount_of g k

-- What a payment makes of the lots g and h.
pub record IsPaid (g h g' h' : Holding) (ledger by : ℕ) : Type 0 where
  pub lowered : amount_of g' ledger ≡ amount_of g ledger -ℤ pos by
  pub raised : amount_of h' ledger ≡ amount_of h ledger +ℤ pos by
  pub from_others : (k : ℕ) → k ≢ ledger → amount_of g' k ≡ amount_of g k
  pub to_others : (k : ℕ) → k ≢ ledger → amount_of h' k ≡ amount_of h k
  pub from_parts : (k : ℕ) → parts_of g' k ≡ parts_of g k
  pub to_parts : (k : ℕ) → parts_of h' k ≡ parts_of h k

-- a lot of the books b, and the account behind it
module _ (b : BooksId) (t : TableId) (vs : List Account) (g : Holding) (is : holding_of t vs ≡ g) (own : g.books ≡ b) (h : IsHeld vs) where
  abbrev v : Account
  v = account_of vs

  pub own_plan : v.plan ≡ b.plan
  own_plan = plan_from t vs g is b own

  pub sound_here : IsSound b.plan v.postings
  sound_here = held_sound vs b.plan h own_plan

  module _ (first count n : ℕ) (enough : (k : ℕ) → first ≤ k → k < first + count → n ≤ parts_of g k)
      (settled : (k : ℕ) → first ≤ k → k < first + count → parts_of g k ≡ n → amount_of g k ≡ pos 0) where
    enough_at : (k : ℕ) → first ≤ k → k < first + count → n ≤ parts_at v k
    enough_at k low high = rw (parts_from t vs g is k) (enough k low high)

    settled_at : (k : ℕ) → first ≤ k → k < first + count → parts_at v k ≡ n → amount_in v.postings k ≡ pos 0
    settled_at k low high e = amounts_from t vs g is k ∙ settled k low high (sym (parts_from t vs g is k) ∙ e)

    rest_sound : IsSound b.plan (cut_left v first count n).postings
    rest_sound = left_sound b.plan v first count n sound_here enough_at settled_at

    pub cut_splits : (id : ℕ) → Splits {S = Unit {0}} (Keeps b.plan) id v (cut_left v first count n) (cut_right v first count n)
    cut_splits id = cuts b.plan v first count n id rest_sound

    module _ (rs : List Account) (made : rs ≡ cut_left v first count n ∷ []) (u : TableId) where
      pub rest_held : IsHeld rs
      rest_held = held rs (cut_left v first count n) b.plan made (sym own_plan) rest_sound

      pub rest_parts : (k : ℕ) → first ≤ k → k < first + count → parts_of (holding_of u rs) k + n ≡ parts_of g k
      rest_parts k low high =
          rw (parts_to u rs (cut_left v first count n) made k)
          (left_rest b.plan v first count n sound_here enough_at settled_at k low high ∙ parts_from t vs g is k)

      pub rest_others : (k : ℕ) → (k < first) ⊎ (first + count ≤ k) → parts_of (holding_of u rs) k ≡ parts_of g k
      rest_others k out =
          parts_to u rs (cut_left v first count n) made k ∙ (left_others b.plan v first count n k out ∙ parts_from t vs g is k)

      pub rest_amounts : (k : ℕ) → amount_of (holding_of u rs) k ≡ amount_of g k
      rest_amounts k = amounts_to u rs (cut_left v first count n) made k ∙ (left_amount b.plan v first count n k ∙ amounts_from t vs g is k)

    module _ (cs : List Account) (made : cs ≡ cut_right v first count n ∷ []) (u : TableId) where
      pub cut_held : IsHeld cs
      cut_held = held cs (cut_right v first count n) b.plan made (sym own_plan) (right_sound b.plan v first count n)

      pub cut_parts : (k : ℕ) → first ≤ k → k < first + count → parts_of (holding_of u cs) k ≡ n
      cut_parts k low high = parts_to u cs (cut_right v first count n) made k ∙ right_parts b.plan v first count n k low high

      pub cut_others : (k : ℕ) → (k < first) ⊎ (first + count ≤ k) → parts_of (holding_of u cs) k ≡ 0
      cut_others k out = parts_to u cs (cut_right v first count n) made k ∙ right_others b.plan v first count n k out

      pub cut_amounts : (k : ℕ) → amount_of (holding_of u cs) k ≡ pos 0
      cut_amounts k = amounts_to u cs (cut_right v first count n) made k ∙ right_amount b.plan v first count n k

    pub is_cut : (rs cs : List Account) → rs ≡ cut_left v first count n ∷ [] → cs ≡ cut_right v first count n ∷ [] → (u w : TableId)
        → IsCut g (holding_of u rs) (holding_of w cs) first count n
    is_cut rs cs left right u w = record {
      cut = cut_parts cs right w;
      rest = rest_parts rs left u;
      no_others = cut_others cs right w;
      others = rest_others rs left u;
      no_amounts = cut_amounts cs right w;
      amounts = rest_amounts rs left u;
    }

-- two lots of the books b
module _ (b : BooksId) (t u : TableId) (vs ws : List Account) (g h : Holding) (is : holding_of t vs ≡ g) (is' : holding_of u ws ≡ h)
    (own : (g.books ≡ b) × (h.books ≡ b)) (one : IsHeld vs) (other : IsHeld ws) where
  abbrev a : Account
  a = account_of vs

  abbrev c : Account
  c = account_of ws

  plan_here : a.plan ≡ b.plan
  plan_here = own_plan b t vs g is own.0 one

  plan_there : c.plan ≡ b.plan
  plan_there = own_plan b u ws h is' own.1 other

  one_sound : IsSound b.plan a.postings
  one_sound = sound_here b t vs g is own.0 one

  other_sound : IsSound b.plan c.postings
  other_sound = sound_here b u ws h is' own.1 other

  module _ (js : List Account) (made : js ≡ joined a c ∷ []) (r : TableId) where
    pub both_held : IsHeld js
    both_held = held js (joined a c) b.plan made (sym plan_here) (sound-append b.plan a.postings c.postings one_sound other_sound)

    pub both_parts : (k : ℕ) → parts_of (holding_of r js) k ≡ parts_of g k + parts_of h k
    both_parts k =
        parts_to r js (joined a c) made k
        ∙ (joined_parts b.plan a c one_sound other_sound k
        ∙ ap (λ (z : ℕ × ℕ). z.0 + z.1) (λ i. (parts_from t vs g is k i, parts_from u ws h is' k i)))

    pub both_amounts : (k : ℕ) → amount_of (holding_of r js) k ≡ amount_of g k +ℤ amount_of h k
    both_amounts k =
        amounts_to r js (joined a c) made k
        ∙ (joined_amount b.plan a c k ∙ ap (λ (z : ℤ × ℤ). z.0 +ℤ z.1) (λ i. (amounts_from t vs g is k i, amounts_from u ws h is' k i)))

  pub back : (id : ℕ) → Splits {S = Unit {0}} (Keeps b.plan) id (joined a c) a c
  back id = cuts_back b.plan a c one_sound other_sound id

  module _ (ledger : ℕ) (below : ledger < b.plan.ledgers) (all : parts_of g ledger + parts_of h ledger ≡ b.plan.parts) (tells : Tells (joined a c)) where
    sum_is : amount_in (joined a c).postings ledger ≡ amount_of g ledger +ℤ amount_of h ledger
    sum_is = joined_amount b.plan a c ledger ∙ ap (λ (z : ℤ × ℤ). z.0 +ℤ z.1) (λ i. (amounts_from t vs g is ledger i, amounts_from u ws h is' ledger i))

    whole : parts_in (joined a c).postings ledger ≡ pos b.plan.parts
    whole =
        let p = parts_from t vs g is ledger in
        let q = parts_from u ws h is' ledger in
        let j = joined_is b.plan a c one_sound other_sound ledger in
        j ∙ ap pos (omega arith)

    told_here : (amount_in (joined a c).postings ledger ≤ℤ pos 0) × (b.plan.loose ≤ ledger → amount_in (joined a c).postings ledger ≡ pos 0)
    told_here = subst
        (λ (p : Plan). (k : ℕ) → k < p.ledgers → parts_in (joined a c).postings k ≡ pos p.parts
        → (amount_in (joined a c).postings k ≤ℤ pos 0) × (p.loose ≤ k → amount_in (joined a c).postings k ≡ pos 0))
        plan_here tells ledger below whole

    pub sum_known : ((amount_of g ledger +ℤ amount_of h ledger) ≤ℤ pos 0) × (b.plan.loose ≤ ledger → amount_of g ledger +ℤ amount_of h ledger ≡ pos 0)
    sum_known = (subst (λ (z : ℤ). z ≤ℤ pos 0) sum_is told_here.0, λ closed. sym sum_is ∙ told_here.1 closed)

  module _ (ledger by : ℕ) (from_part : 1 ≤ parts_of g ledger) (to_part : (1 ≤ parts_of h ledger) ⊎ (ledger < b.plan.loose)) where
    from_part_at : 1 ≤ parts_at a ledger
    from_part_at = rw (parts_from t vs g is ledger) from_part

    to_part_at : (1 ≤ parts_at c ledger) ⊎ (ledger < b.plan.loose)
    to_part_at = rw (parts_from u ws h is' ledger) to_part

    payer_sound : IsSound b.plan (payer a ledger by).postings
    payer_sound = from_sound b.plan a c ledger by one_sound from_part_at

    payee_sound : IsSound b.plan (payee c ledger by).postings
    payee_sound = to_sound b.plan a c ledger by other_sound to_part_at

    pub pay_splits : (id : ℕ) → Splits {S = Unit {0}} (Keeps b.plan) id (joined a c) (payer a ledger by) (payee c ledger by)
    pay_splits id = pays b.plan a c ledger by id payer_sound payee_sound

    module _ (fs : List Account) (made : fs ≡ payer a ledger by ∷ []) (r : TableId) where
      pub from_held : IsHeld fs
      from_held = held fs (payer a ledger by) b.plan made (sym plan_here) payer_sound

      pub pay_lowered : amount_of (holding_of r fs) ledger ≡ amount_of g ledger -ℤ pos by
      pay_lowered =
          amounts_to r fs (payer a ledger by) made ledger
          ∙ (lowered b.plan a c ledger by ∙ ap (λ (z : ℤ). z -ℤ pos by) (amounts_from t vs g is ledger))

      pub pay_from_others : (k : ℕ) → k ≢ ledger → amount_of (holding_of r fs) k ≡ amount_of g k
      pay_from_others k ne =
          amounts_to r fs (payer a ledger by) made k ∙ (from_others b.plan a c ledger by k ne ∙ amounts_from t vs g is k)

      pub pay_from_parts : (k : ℕ) → parts_of (holding_of r fs) k ≡ parts_of g k
      pay_from_parts k = parts_to r fs (payer a ledger by) made k ∙ (from_parts b.plan a c ledger by k ∙ parts_from t vs g is k)

    module _ (ts : List Account) (made : ts ≡ payee c ledger by ∷ []) (r : TableId) where
      pub to_held : IsHeld ts
      to_held = held ts (payee c ledger by) b.plan made (sym plan_there) payee_sound

      pub pay_raised : amount_of (holding_of r ts) ledger ≡ amount_of h ledger +ℤ pos by
      pay_raised =
          amounts_to r ts (payee c ledger by) made ledger
          ∙ (raised b.plan a c ledger by ∙ ap (λ (z : ℤ). z +ℤ pos by) (amounts_from u ws h is' ledger))

      pub pay_to_others : (k : ℕ) → k ≢ ledger → amount_of (holding_of r ts) k ≡ amount_of h k
      pay_to_others k ne =
          amounts_to r ts (payee c ledger by) made k ∙ (to_others b.plan a c ledger by k ne ∙ amounts_from u ws h is' k)

      pub pay_to_parts : (k : ℕ) → parts_of (holding_of r ts) k ≡ parts_of h k
      pay_to_parts k = parts_to r ts (payee c ledger by) made k ∙ (to_parts b.plan a c ledger by k ∙ parts_from u ws h is' k)

    pub is_paid : (fs ts : List Account) → fs ≡ payer a ledger by ∷ [] → ts ≡ payee c ledger by ∷ [] → (r q : TableId)
        → IsPaid g h (holding_of r fs) (holding_of q ts) ledger by
    is_paid fs ts from to r q = record {
      lowered = pay_lowered fs from r;
      raised = pay_raised ts to q;
      from_others = pay_from_others fs from r;
      to_others = pay_to_others ts to q;
      from_parts = pay_from_parts fs from r;
      to_parts = pay_to_parts ts to q;
    }

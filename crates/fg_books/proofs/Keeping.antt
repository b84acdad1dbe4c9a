-- Each kind of step keeps the rule.
use Rattle.std.proofs.Common.{◌≡◌, ℕ, ◌<◌, ◌≤◌, List, [], ◌∷◌, ◌++◌, set, refl, sym, ◌∙◌, subst, ⊎_elim, arith}
use Rattle.std.proofs.lemmas.Int.{ints}
use lib.IntN.{ℤ, pos, ◌+ℤ◌, neg_ℤ}
use lib.Signed.{◌≤ℤ◌}
use lib.ListN.{get_elem?}
use mathlib.Core.Option.{some, none}
use Rattle.atomic_table.specs.Table.{step, keeps, Allows, Splits, Joins}
use Rattle.atomic_table.proofs.Lists.{at_set, at_snoc, set_else, set_again}
use Rattle.fg_books.specs.declared.account.Plan.{Plan}
use Rattle.fg_books.specs.declared.account.Posting.{Posting}
use Rattle.fg_books.specs.declared.account.Account.{Account}
use Rattle.fg_books.specs.Shares.{sum_in, parts_in, amount_in, IsSoundShare, IsSound}
use Rattle.fg_books.specs.Rules.{total, Balanced, Keeps, joined, spent, told}
use Rattle.fg_books.proofs.Sums.{total-set, total-snoc, total-neg, all_parts, sum_in-append}

abbrev parts : Posting → ℤ
parts p = p.parts

abbrev amount : Posting → ℤ
amount p = p.amount

abbrev In : (Posting → ℤ) → ℕ → Account → ℤ
In f k a = sum_in f a.postings k

-- the parts and the amounts of two sound shares, added
sound_both : (plan : Plan) (k : ℕ) (p a q b x y : ℤ) → IsSoundShare plan k p a → IsSoundShare plan k q b → x ≡ p +ℤ q → y ≡ a +ℤ b → IsSoundShare plan k x y
sound_both plan k p a q b x y one other ex ey =
    let sp : pos 0 ≤ℤ p = one.some_or_none in
    let sq : pos 0 ≤ℤ q = other.some_or_none in
    record {
      some_or_none = omega (arith, ints);
      owes_nothing = λ none.
          let a0 : pos 0 ≤ℤ a = one.owes_nothing (omega (arith, ints)) in
          let b0 : pos 0 ≤ℤ b = other.owes_nothing (omega (arith, ints)) in
          omega (arith, ints);
      owns_nothing = λ none closed.
          let a0 : a ≡ pos 0 = one.owns_nothing (omega (arith, ints)) closed in
          let b0 : b ≡ pos 0 = other.owns_nothing (omega (arith, ints)) closed in
          omega (arith, ints);
    }

pub sound-append : (plan : Plan) (ps qs : List Posting) → IsSound plan ps → IsSound plan qs → IsSound plan (ps ++ qs)
sound-append plan ps qs one other k =
    sound_both plan k (parts_in ps k) (amount_in ps k) (parts_in qs k) (amount_in qs k) _ _ (one k) (other k) (sum_in-append parts ps qs k)
    (sum_in-append amount ps qs k)

pub sound-empty : (plan : Plan) → IsSound plan []
sound-empty plan k = record { some_or_none = omega (arith, ints); owes_nothing = λ _. omega (arith, ints); owns_nothing = λ _ _. refl }

-- the sum over all accounts after a join
joined_total : (f : Posting → ℤ) (k : ℕ) (views : List Account) (id other : ℕ) (v w : Account) → get_elem? views id ≡ some v
    → get_elem? (set views id (joined v w)) other ≡ some w → total (In f k) (set (set views id (joined v w)) other spent) ≡ total (In f k) views
joined_total f k views id other v w at there =
    let first = total-set (In f k) views id v (joined v w) at in
    let second = total-set (In f k) (set views id (joined v w)) other w spent there in
    let both = sum_in-append f v.postings w.postings k in
    omega (arith, ints)

pub unites : (plan : Plan) (id other : ℕ) (v w : Account) → Joins {S = Unit {0}} (Keeps plan) id v other w (joined v w) spent
unites plan id other v w s rule at apart there =
    let was : get_elem? s.views other ≡ some w = sym (set_else s.views id other (joined v w) apart) ∙ there in
    let both : IsSound plan (joined v w).postings = sound-append plan v.postings w.postings (rule.sound id v at) (rule.sound other w was) in
    record {
      amounts = λ k. joined_total amount k s.views id other v w at there ∙ rule.amounts k;
      parts = λ k h. joined_total parts k s.views id other v w at there ∙ rule.parts k h;
      sound = λ j a e. ⊎_elim
          (λ here. subst (λ (x : Account). IsSound plan x.postings) here.1 (sound-empty plan))
          (λ t. ⊎_elim (λ here. subst (λ (x : Account). IsSound plan x.postings) here.1 both) (λ u. rule.sound j a u.1) (at_set s.views id j (joined v w) a t.1))
          (at_set (set s.views id (joined v w)) other j spent a e);
    }

-- the sum over all accounts after a cut
cut_total : (f : Posting → ℤ) (k : ℕ) (views : List Account) (id : ℕ) (v left right : Account) → get_elem? views id ≡ some v
    → In f k left +ℤ In f k right ≡ In f k v → total (In f k) (set views id left ++ right ∷ []) ≡ total (In f k) views
cut_total f k views id v left right at e =
    let first = total-set (In f k) views id v left at in
    let second = total-snoc (In f k) (set views id left) right in
    omega (arith, ints)

-- a cut, where the halves are sound and sum to the whole
pub divides : (plan : Plan) (id : ℕ) (v left right : Account) → ((k : ℕ) → parts_in left.postings k +ℤ parts_in right.postings k ≡ parts_in v.postings k)
    → ((k : ℕ) → amount_in left.postings k +ℤ amount_in right.postings k ≡ amount_in v.postings k) → IsSound plan left.postings → IsSound plan right.postings
    → Splits {S = Unit {0}} (Keeps plan) id v left right
divides plan id v left right parts_same amounts_same left_sound right_sound s rule at = record {
  amounts = λ k. cut_total amount k s.views id v left right at (amounts_same k) ∙ rule.amounts k;
  parts = λ k h. cut_total parts k s.views id v left right at (parts_same k) ∙ rule.parts k h;
  sound = λ j a e. ⊎_elim
      (λ t. ⊎_elim (λ here. subst (λ (x : Account). IsSound plan x.postings) here.1 left_sound) (λ u. rule.sound j a u.1) (at_set s.views id j left a t))
      (λ here. subst (λ (x : Account). IsSound plan x.postings) here right_sound)
      (at_snoc (set s.views id left) right a j e);
}

-- an account with all parts of a ledger tells of its amount
pub tells : (plan : Plan) (views : List Account) (id : ℕ) (v : Account) → Balanced plan views → get_elem? views id ≡ some v → (k : ℕ) → k < plan.ledgers
    → parts_in v.postings k ≡ pos plan.parts → (amount_in v.postings k ≤ℤ pos 0) × (plan.loose ≤ k → amount_in v.postings k ≡ pos 0)
tells plan views id v rule at k below all =
    let whole : total (In parts k) views ≡ In parts k v = rule.parts k below ∙ sym all in
    let none : total (In amount k) views ≡ pos 0 = rule.amounts k in
    let most : In amount k v ≤ℤ total (In amount k) views =
    (all_parts (In parts k) (In amount k) views id v (λ i u e. ((rule.sound i u e k).some_or_none, (rule.sound i u e k).owes_nothing)) at).1 whole in (
      omega (arith, ints),
      λ closed.
          let least : neg_ℤ (In amount k v) ≤ℤ total (λ (u : Account). neg_ℤ (In amount k u)) views =
          (all_parts (In parts k) (λ (u : Account). neg_ℤ (In amount k u)) views id v
          (λ i u e. ((rule.sound i u e k).some_or_none, λ z. let o : In amount k u ≡ pos 0 = (rule.sound i u e k).owns_nothing z closed in omega (arith, ints))) at).1
          whole in
          let turned = total-neg (In amount k) views in
          omega (arith, ints),
    )

pub looks : (plan : Plan) (slots id : ℕ) (v : Account) → v.plan ≡ plan
    → Allows {S = Unit {0}} (Keeps plan) slots id (v, []) 0 (λ n. n) (told (step slots 0 0 0 none) (v, []))
looks plan slots id v own s rule _ at _ = (
  v,
  keeps,
  tt,
  subst (Balanced plan) (sym (set_again s.views id v at)) rule,
  (
    refl,
    subst (λ (p : Plan). (k : ℕ) → k < p.ledgers → parts_in v.postings k ≡ pos p.parts → (amount_in v.postings k ≤ℤ pos 0) × (p.loose ≤ k → amount_in v.postings k ≡ pos 0))
        (sym own) (tells plan s.views id v rule at),
  ),
)

-- The order of pairs, and ascending lists of them.
use Rattle.std.proofs.Common.{◌≡◌, zero, suc, ◌≤◌, ◌⊎◌, ◌∷◌, ◌∙◌, true, false, List, [], All, Contains, Any, get_or, refl, ap, subst, sym, inl, inr, arith}
use Rattle.std.proofs.lemmas.Bool.{cases_order, cases_eq, lt-ltb, le-ltb, eq-eqb, ne_eqb, and_from, and_left, and_right, or_left, or_right, or_from}
use Rattle.std.proofs.lemmas.List.{get_or_default}
use Rattle.std.proofs.lemmas.List.Elements.{All-head, All-tail, All-contains}
use Rattle.std.proofs.lemmas.List.Kept.{AllPairs-cons}
use Rattle.fg_model.specs.declared.edges.Pair.{Pair}
use Rattle.fg_model.specs.Edges.{Ascends, ComesBefore}
use Rattle.fg_text.specs.Merged.{IsNoMore, comes_before}

-- two pairs are of the same vertices
pub record SamePlace (one other : Pair) : Type 0 where
  pub source : one.source ≡ other.source
  pub target : one.target ≡ other.target

-- a pair stands no later than another: by source, at one source by target, and at one place by weight
abbrev pub NoLater : Pair → Pair → Type 0
NoLater one other = ComesBefore one other ⊎ IsNoMore other one

-- how two pairs stand, and what the tests say of it
pub data Order (one other : Pair) : Type 0 where
  Before : comes_before one other ≡ true → ComesBefore one other → Order one other
  After : comes_before one other ≡ false → comes_before other one ≡ true → ComesBefore other one → Order one other
  Same : comes_before one other ≡ false → comes_before other one ≡ false → SamePlace one other → Order one other

test_before : (one other : Pair) → ComesBefore one other → comes_before one other ≡ true
test_before one other (inl lt) = or_left _ _ (lt-ltb one.source other.source lt)
test_before one other (inr both) = or_right _ _ (and_from _ _ (eq-eqb one.source other.source both.0) (lt-ltb one.target other.target both.1))

test_not_before : (one other : Pair) → other.source ≤ one.source → (one.source ≡ other.source → other.target ≤ one.target) → comes_before one other ≡ false
test_not_before one other source target =
    or_from _ _ (le-ltb one.source other.source source)
    (elim (cases_eq one.source other.source) [ inl e ↦ and_right _ _ (le-ltb one.target other.target (target e)) | inr ne ↦ and_left _ _ (ne_eqb one.source other.source ne) ])

pub order_of : (one other : Pair) → Order one other
order_of one other =
    elim (cases_order one.source other.source) [
      | inl e ↦
          elim (cases_order one.target other.target) [
            | inl f ↦ Same (test_not_before one other (omega arith) (λ _. omega arith)) (test_not_before other one (omega arith) (λ _. omega arith)) (record { source = e; target = f })
            | inr (inl lt) ↦ Before (test_before one other (inr (e, lt))) (inr (e, lt))
            | inr (inr gt) ↦ After (test_not_before one other (omega arith) (λ _. omega arith)) (test_before other one (inr (sym e, gt))) (inr (sym e, gt))
          ]
      | inr (inl lt) ↦ Before (test_before one other (inl lt)) (inl lt)
      | inr (inr gt) ↦ After (test_not_before one other (omega arith) (λ same. absurd (omega arith))) (test_before other one (inl gt)) (inl gt)
    ]

pub before_trans : (one between other : Pair) → ComesBefore one between → ComesBefore between other → ComesBefore one other
before_trans one between other (inl lt) (inl lt') = inl (omega arith)
before_trans one between other (inl lt) (inr both) = inl (omega (arith, both.0))
before_trans one between other (inr both) (inl lt) = inl (omega (arith, both.0))
before_trans one between other (inr both) (inr both') = inr (both.0 ∙ both'.0, omega (arith, both.1, both'.1))

pub not_before_itself : (one other : Pair) → SamePlace one other → ComesBefore one other → ⊥
not_before_itself one other same (inl lt) = omega (arith, same.source)
not_before_itself one other same (inr both) = omega (arith, same.target, both.1)

pub not_both_before : (one other : Pair) → ComesBefore one other → ComesBefore other one → ⊥
not_both_before one other before after = not_before_itself one one (record { source = refl; target = refl }) (before_trans one other one before after)

-- what comes before a pair comes before another of its place
pub before_same : (one between other : Pair) → SamePlace between other → ComesBefore one between → ComesBefore one other
before_same one between other same (inl lt) = inl (omega (arith, same.source))
before_same one between other same (inr both) = inr (both.0 ∙ same.source, omega (arith, same.target, both.1))

pub same_before : (one between other : Pair) → SamePlace one between → ComesBefore between other → ComesBefore one other
same_before one between other same (inl lt) = inl (omega (arith, same.source))
same_before one between other same (inr both) = inr (same.source ∙ both.0, omega (arith, same.target, both.1))

-- elements of a list with one more in front
pub contains_here : (pair : Pair) (pairs : List Pair) → Contains (pair ∷ pairs) pair
contains_here pair pairs = (0, omega arith, refl)

pub contains_there : (pair other : Pair) (pairs : List Pair) → Contains pairs pair → Contains (other ∷ pairs) pair
contains_there pair other pairs (k, lt, at) = (suc k, omega arith, at)

pub contains_cases : (pair other : Pair) (pairs : List Pair) → Contains (other ∷ pairs) pair → (other ≡ pair) ⊎ Contains pairs pair
contains_cases pair other pairs (zero, lt, at) = inl at
contains_cases pair other pairs (suc k, lt, at) = inr (k, omega arith, at)

pub any_here : (P : Pair → Type 0) (pair : Pair) (pairs : List Pair) → P pair → Any P (pair ∷ pairs)
any_here P pair pairs is = (0, pair, omega arith, refl, is)

pub any_there : (P : Pair → Type 0) (pair : Pair) (pairs : List Pair) → Any P pairs → Any P (pair ∷ pairs)
any_there P pair pairs (k, x, lt, at, is) = (suc k, x, omega arith, at, is)

pub any_cases : (P : Pair → Type 0) (pair : Pair) (pairs : List Pair) → Any P (pair ∷ pairs) → P pair ⊎ Any P pairs
any_cases P pair pairs (zero, x, lt, at, is) = inl (subst P (sym at) is)
any_cases P pair pairs (suc k, x, lt, at, is) = inr (k, x, omega arith, at, is)

pub any_weaker : (P Q : Pair → Type 0) (pairs : List Pair) → ((pair : Pair) → P pair → Q pair) → Any P pairs → Any Q pairs
any_weaker P Q pairs weaker (k, x, lt, at, is) = (k, x, lt, at, weaker x is)

-- an ascending list, its first pair and the rest
pub ascends_head : (pair : Pair) (pairs : List Pair) → Ascends (pair ∷ pairs) → All (ComesBefore pair) pairs
ascends_head pair pairs up = λ k d lt. up 0 (suc k) d (omega arith) (omega arith)

pub ascends_tail : (pair : Pair) (pairs : List Pair) → Ascends (pair ∷ pairs) → Ascends pairs
ascends_tail pair pairs up = λ i j d lt in'. up (suc i) (suc j) d (omega arith) (omega arith)

pub ascends_cons : (pair : Pair) (pairs : List Pair) → All (ComesBefore pair) pairs → Ascends pairs → Ascends (pair ∷ pairs)
ascends_cons pair pairs all up = AllPairs-cons ComesBefore pair pairs all up

pub ascends_nil : Ascends []
ascends_nil = λ i j d lt in'. absurd (omega arith)

-- of one place an ascending list has one pair
pub one_at_place : (pairs : List Pair) (one other : Pair) → Ascends pairs → Contains pairs one → Contains pairs other → SamePlace one other → one ≡ other
one_at_place pairs one other up (i, lt, at) (j, lt', at') same =
    let there : get_or pairs j one ≡ other = get_or_default pairs j one other lt' ∙ at' in
    let P : Pair → Pair → Type 0 = ComesBefore in
    elim (cases_order i j) [
      | inl e ↦ sym at ∙ ap (λ k. get_or pairs k one) e ∙ there
      | inr (inl before) ↦
          let first : ComesBefore one (get_or pairs j one) = let Q : Pair → Type 0 = λ pair. ComesBefore pair (get_or pairs j one) in subst Q at (up i j one before lt') in
          let both : ComesBefore one other = let Q : Pair → Type 0 = λ pair. ComesBefore one pair in subst Q there first in
          absurd (not_before_itself one other same both)
      | inr (inr after) ↦
          let first : ComesBefore other (get_or pairs i one) = let Q : Pair → Type 0 = λ pair. ComesBefore pair (get_or pairs i one) in subst Q there (up j i one after lt) in
          let both : ComesBefore other one = let Q : Pair → Type 0 = λ pair. ComesBefore other pair in subst Q at first in
          absurd (not_before_itself other one (record { source = sym same.source; target = sym same.target }) both)
    ]

-- ascending lists of the same pairs are one list
pub same_ascending : (one other : List Pair) → Ascends one → Ascends other → All (Contains other) one → All (Contains one) other → one ≡ other
same_ascending [] [] up up' in' has = refl
same_ascending [] (y ∷ ys) up up' in' has = absurd (omega (arith, (All-head (Contains []) y ys has).1))
same_ascending (x ∷ xs) [] up up' in' has = absurd (omega (arith, (All-head (Contains []) x xs in').1))
same_ascending (x ∷ xs) (y ∷ ys) up up' in' has =
    let after_x = ascends_head x xs up in
    let after_y = ascends_head y ys up' in
    let heads : x ≡ y =
    elim (contains_cases x y ys (All-head (Contains (y ∷ ys)) x xs in')) [
      | inl e ↦ sym e
      | inr there ↦
          elim (contains_cases y x xs (All-head (Contains (x ∷ xs)) y ys has)) [
            | inl e ↦ e
            | inr there' ↦ absurd (not_both_before x y (All-contains (ComesBefore x) xs y after_x there') (All-contains (ComesBefore y) ys x after_y there))
          ]
    ] in
    let P : Pair → Type 0 = λ pair. ComesBefore pair x in
    let Q : Pair → Type 0 = λ pair. ComesBefore pair y in
    let rest : All (Contains ys) xs = λ k d lt.
    elim (contains_cases (get_or xs k d) y ys (All-tail (Contains (y ∷ ys)) x xs in' k d lt)) [
      | inl e ↦ absurd (not_before_itself x (get_or xs k d) (record { source = ap (λ (pair : Pair). pair.source) (heads ∙ e); target = ap (λ (pair : Pair). pair.target) (heads ∙ e) }) (after_x k d lt))
      | inr there ↦ there
    ] in
    let rest' : All (Contains xs) ys = λ k d lt.
    elim (contains_cases (get_or ys k d) x xs (All-tail (Contains (x ∷ xs)) y ys has k d lt)) [
      | inl e ↦ absurd (not_before_itself y (get_or ys k d) (record { source = ap (λ (pair : Pair). pair.source) (sym heads ∙ e); target = ap (λ (pair : Pair). pair.target) (sym heads ∙ e) }) (after_y k d lt))
      | inr there ↦ there
    ] in
    let tails = same_ascending xs ys (ascends_tail x xs up) (ascends_tail y ys up') rest rest' in
    ap (λ head. head ∷ xs) heads ∙ ap (λ tail. y ∷ tail) tails

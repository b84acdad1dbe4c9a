-- Merging: what the definition gives is merged, and nothing else is.
use Rattle.std.proofs.Common.{◌≡◌, ◌≤◌, ◌∷◌, ◌∙◌, List, [], All, Any, Contains, get_or, refl, ap, subst, sym, inl, inr, arith}
use Rattle.std.proofs.lemmas.Bool.{cases_lt}
use Rattle.std.proofs.lemmas.List.Elements.{All-cons, All-head, All-nil, All-tail, All-contains, All-weaker, Contains-get_or}
use Rattle.std.proofs.lemmas.List.Sorted.{All-permutation, Contains-permutation, IsPermutation-sym}
use Rattle.std.specs.List.Sorted.{IsPermutation}
use Rattle.fg_model.specs.declared.edges.Pair.{Pair}
use Rattle.fg_model.specs.Edges.{Ascends, ComesBefore}
use Rattle.fg_text.specs.Merged.{IsMerged, IsNoMore, merged, with_lesser, with_pair}
use Rattle.fg_text.proofs.OrderLemmas.{SamePlace, Before, After, Same, order_of, before_trans, same_before, contains_here, contains_there, any_here, any_there, any_cases, ascends_head, ascends_tail, ascends_cons, ascends_nil, one_at_place, same_ascending}

-- a pair is its three numbers
pair_by : (one other : Pair) → one.source ≡ other.source → one.target ≡ other.target → one.weight ≡ other.weight → one ≡ other
pair_by one other source target weight =
    ap (λ x. record { source = x; target = one.target; weight = one.weight }) source
    ∙ ap (λ x. record { source = other.source; target = x; weight = one.weight }) target
    ∙ ap (λ x. record { source = other.source; target = other.target; weight = x }) weight

-- of two pairs of one place the lesser is one of them
lesser_is : (P : Pair → Type 0) (one other : Pair) → SamePlace one other → P one → P other → P (with_lesser one other)
lesser_is P one other same is is' =
    elim (cases_lt other.weight one.weight) [
      | inl lt ↦ subst P (pair_by other (with_lesser one other) (sym same.source) (sym same.target) (omega arith)) is'
      | inr le ↦ subst P (pair_by one (with_lesser one other) refl refl (omega arith)) is
    ]

-- what holds of all pairs and of one more holds once that is put in
all_with_pair : (P : Pair → Type 0) (pair : Pair) (kept : List Pair) → P pair → All P kept → All P (with_pair pair kept)
all_with_pair P pair [] is all = All-cons P pair [] is all
all_with_pair P pair (first ∷ rest) is all =
    let here = All-head P first rest all in
    let there = All-tail P first rest all in
    elim (order_of pair first) [
      | Before t before ↦ rw t (All-cons P pair (first ∷ rest) is all)
      | After f t after ↦ rw (f, t) (All-cons P first (with_pair pair rest) here (all_with_pair P pair rest is there))
      | Same f f' same ↦ rw (f, f') (All-cons P (with_lesser pair first) rest (lesser_is P pair first same is here) there)
    ]

ascends_with_pair : (pair : Pair) (kept : List Pair) → Ascends kept → Ascends (with_pair pair kept)
ascends_with_pair pair [] up = ascends_cons pair [] (All-nil (ComesBefore pair)) ascends_nil
ascends_with_pair pair (first ∷ rest) up =
    let behind = ascends_head first rest up in
    let later = ascends_tail first rest up in
    elim (order_of pair first) [
      | Before t before ↦
          let far : All (ComesBefore pair) rest = All-weaker (ComesBefore first) (ComesBefore pair) (λ other after. before_trans pair first other before after) rest behind in
          rw t (ascends_cons pair (first ∷ rest) (All-cons (ComesBefore pair) first rest before far) up)
      | After f t before ↦ rw (f, t) (ascends_cons first (with_pair pair rest) (all_with_pair (ComesBefore first) pair rest before behind) (ascends_with_pair pair rest later))
      | Same f f' same ↦
          let far : All (ComesBefore (with_lesser pair first)) rest =
          All-weaker (ComesBefore first) (ComesBefore (with_lesser pair first)) (λ other after. same_before (with_lesser pair first) first other (record { source = same.source; target = same.target }) after) rest behind in
          rw (f, f') (ascends_cons (with_lesser pair first) rest far later)
    ]

pub no_more_itself : (pair : Pair) → IsNoMore pair pair
no_more_itself pair = record { source = refl; target = refl; weight = omega arith }

pub no_more_trans : (pair between least : Pair) → IsNoMore pair between → IsNoMore between least → IsNoMore pair least
no_more_trans pair between least first then_ = record {
  source = then_.source ∙ first.source;
  target = then_.target ∙ first.target;
  weight = omega (arith, first.weight, then_.weight);
}

-- the pair that was put in, or the one that stays in its place, weighs no more
pair_is_in : (pair : Pair) (kept : List Pair) → Any (IsNoMore pair) (with_pair pair kept)
pair_is_in pair [] = any_here (IsNoMore pair) pair [] (no_more_itself pair)
pair_is_in pair (first ∷ rest) =
    elim (order_of pair first) [
      | Before t before ↦ rw t (any_here (IsNoMore pair) pair (first ∷ rest) (no_more_itself pair))
      | After f t after ↦ rw (f, t) (any_there (IsNoMore pair) first (with_pair pair rest) (pair_is_in pair rest))
      | Same f f' same ↦ rw (f, f') (any_here (IsNoMore pair) (with_lesser pair first) rest (record { source = refl; target = refl; weight = omega arith }))
    ]

-- what weighed no more than a pair is still there, or lighter
still_in : (other pair : Pair) (kept : List Pair) → Any (IsNoMore other) kept → Any (IsNoMore other) (with_pair pair kept)
still_in other pair [] any = any_there (IsNoMore other) pair [] any
still_in other pair (first ∷ rest) any =
    elim (order_of pair first) [
      | Before t before ↦ rw t (any_there (IsNoMore other) pair (first ∷ rest) any)
      | After f t after ↦
          rw (f, t) (elim (any_cases (IsNoMore other) first rest any) [
            | inl here ↦ any_here (IsNoMore other) first (with_pair pair rest) here
            | inr there ↦ any_there (IsNoMore other) first (with_pair pair rest) (still_in other pair rest there)
          ])
      | Same f f' same ↦
          rw (f, f') (elim (any_cases (IsNoMore other) first rest any) [
            | inl here ↦
                any_here (IsNoMore other) (with_lesser pair first) rest
                (record { source = same.source ∙ here.source; target = same.target ∙ here.target; weight = omega (arith, here.weight) })
            | inr there ↦ any_there (IsNoMore other) (with_lesser pair first) rest there
          ])
    ]

-- one pair more
merged_with : (pair : Pair) (pairs kept : List Pair) → IsMerged pairs kept → IsMerged (pair ∷ pairs) (with_pair pair kept)
merged_with pair pairs kept is = record {
  ascending = ascends_with_pair pair kept is.ascending;
  among = all_with_pair (Contains (pair ∷ pairs)) pair kept (contains_here pair pairs) (All-weaker (Contains pairs) (Contains (pair ∷ pairs)) (λ other in'. contains_there other pair pairs in') kept is.among);
  least = All-cons (λ other. Any (IsNoMore other) (with_pair pair kept)) pair pairs (pair_is_in pair kept)
      (All-weaker (λ other. Any (IsNoMore other) kept) (λ other. Any (IsNoMore other) (with_pair pair kept)) (λ other any. still_in other pair kept any) pairs is.least);
}

-- the definition merges
pub merged_is : (pairs : List Pair) → IsMerged pairs (merged pairs)
merged_is [] = record { ascending = ascends_nil; among = All-nil (Contains []); least = All-nil (λ pair. Any (IsNoMore pair) []) }
merged_is (pair ∷ pairs) = merged_with pair pairs (merged pairs) (merged_is pairs)

-- of two merged lists each is in the other
is_in_other : (pairs one other : List Pair) → IsMerged pairs one → IsMerged pairs other → All (Contains other) one
is_in_other pairs one other is is' = λ k d lt.
    let x = get_or one k d in
    let x_in : Contains one x = Contains-get_or one k d lt in
    let found = All-contains (λ pair. Any (IsNoMore pair) other) pairs x is'.least (is.among k d lt) in
    let y = found.1 in
    let y_in : Contains other y = (found.0, found.2, found.3) in
    let back = All-contains (λ pair. Any (IsNoMore pair) one) pairs y is.least (All-contains (Contains pairs) other y is'.among y_in) in
    let z = back.1 in
    let z_in : Contains one z = (back.0, back.2, back.3) in
    let same : x ≡ z = one_at_place one x z is.ascending x_in z_in (record { source = sym (back.4.source ∙ found.4.source); target = sym (back.4.target ∙ found.4.target) }) in
    let heavy : x.weight ≤ y.weight = omega (arith, ap (λ (pair : Pair). pair.weight) same, back.4.weight) in
    let weight : y.weight ≡ x.weight = omega (arith, found.4.weight, heavy) in
    let e : y ≡ x = pair_by y x found.4.source found.4.target weight in
    let P : Pair → Type 0 = Contains other in
    subst P e y_in

-- a list has one merged list
pub one_merged : (pairs one other : List Pair) → IsMerged pairs one → IsMerged pairs other → one ≡ other
one_merged pairs one other is is' = same_ascending one other is.ascending is'.ascending (is_in_other pairs one other is is') (is_in_other pairs other one is' is)

-- and it doesn't matter in which order it comes
pub merged_permuted : (pairs moved kept : List Pair) → IsPermutation pairs moved → IsMerged moved kept → IsMerged pairs kept
merged_permuted pairs moved kept permuted is =
    let back = IsPermutation-sym pairs moved permuted in
    record {
      ascending = is.ascending;
      among = All-weaker (Contains moved) (Contains pairs) (λ pair in'. Contains-permutation moved pairs pair back in') kept is.among;
      least = All-permutation (λ pair. Any (IsNoMore pair) kept) moved pairs back is.least;
    }

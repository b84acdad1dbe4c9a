-- Sorted pairs of which the first of each place is kept are merged.
use Rattle.std.proofs.Common.{◌≡◌, ◌∷◌, ◌==◌, true, false, List, [], All, Any, Contains, subst, sym, inl, inr, arith, suc}
use Rattle.std.specs.Prelude.{AllPairs}
use Rattle.std.specs.List.{dedup, dedup_from}
use Rattle.std.proofs.lemmas.Bool.{cases_Bool, and_parts, and_cases, eqb-true, eqb-false}
use Rattle.std.proofs.lemmas.List.Elements.{All-cons, All-head, All-nil, All-tail, All-contains, All-weaker}
use Rattle.std.proofs.lemmas.List.Kept.{AllPairs-cons}
use Rattle.fg_model.specs.declared.edges.Pair.{Pair}
use Rattle.fg_model.specs.Edges.{ComesBefore}
use Rattle.fg_text.specs.Merged.{IsMerged, IsNoMore, has_place_of}
use Rattle.fg_text.proofs.OrderLemmas.{NoLater, before_same, before_trans, not_before_itself, contains_here, contains_there, contains_cases, any_here, any_there, any_weaker, ascends_cons, ascends_nil}
use Rattle.fg_text.proofs.MergedLemmas.{no_more_itself, no_more_trans}

-- the first pair of a sorted list, and the rest
no_later_head : (pair : Pair) (pairs : List Pair) → AllPairs NoLater (pair ∷ pairs) → All (NoLater pair) pairs
no_later_head pair pairs up = λ k d lt. up 0 (suc k) d (omega arith) (omega arith)

no_later_tail : (pair : Pair) (pairs : List Pair) → AllPairs NoLater (pair ∷ pairs) → AllPairs NoLater pairs
no_later_tail pair pairs up = λ i j d lt in'. up (suc i) (suc j) d (omega arith) (omega arith)

-- of one place the first weighs no more
first_is_least : (first later : Pair) → has_place_of later first ≡ true → NoLater first later → IsNoMore later first
first_is_least first later same (inr no_more) = no_more
first_is_least first later same (inl before) =
    let both = and_parts (later.source == first.source) (later.target == first.target) same in
    absurd (not_before_itself first later (record { source = sym (eqb-true later.source first.source both.0); target = sym (eqb-true later.target first.target both.1) }) before)

-- of two places the first comes before
first_is_before : (first later : Pair) → has_place_of later first ≡ false → NoLater first later → ComesBefore first later
first_is_before first later other (inl before) = before
first_is_before first later other (inr no_more) =
    elim (and_cases (later.source == first.source) (later.target == first.target) other) [
      | inl ne ↦ absurd (eqb-false later.source first.source ne (sym no_more.source))
      | inr ne ↦ absurd (eqb-false later.target first.target ne (sym no_more.target))
    ]

-- and before whatever stands no earlier
before_all : (first between later : Pair) → ComesBefore first between → NoLater between later → ComesBefore first later
before_all first between later before (inl before') = before_trans first between later before before'
before_all first between later before (inr no_more) = before_same first between later (record { source = no_more.source; target = no_more.target }) before

-- one pair alone
alone : (pair : Pair) → IsMerged (pair ∷ []) (pair ∷ [])
alone pair = record {
  ascending = ascends_cons pair [] (All-nil (ComesBefore pair)) ascends_nil;
  among = All-cons (Contains (pair ∷ [])) pair [] (contains_here pair []) (All-nil (Contains (pair ∷ [])));
  least = All-cons (λ other. Any (IsNoMore other) (pair ∷ [])) pair [] (any_here (IsNoMore pair) pair [] (no_more_itself pair)) (All-nil (λ other. Any (IsNoMore other) (pair ∷ [])));
}

-- a later pair of the first one's place is left out
left_out : (first later : Pair) (rest kept : List Pair) → IsNoMore later first → IsMerged (first ∷ rest) kept → IsMerged (first ∷ later ∷ rest) kept
left_out first later rest kept no_more is =
    let P : Pair → Type 0 = λ other. Any (IsNoMore other) kept in
    let of_first : P first = All-head P first rest is.least in
    let of_later : P later = any_weaker (IsNoMore first) (IsNoMore later) kept (λ least is'. no_more_trans later first least no_more is') of_first in
    record {
      ascending = is.ascending;
      among =
          All-weaker (Contains (first ∷ rest)) (Contains (first ∷ later ∷ rest))
          (λ pair in'.
          elim (contains_cases pair first rest in') [
            | inl e ↦ let Q : Pair → Type 0 = Contains (first ∷ later ∷ rest) in subst Q e (contains_here first (later ∷ rest))
            | inr there ↦ contains_there pair first (later ∷ rest) (contains_there pair later rest there)
          ])
          kept is.among;
      least = All-cons P first (later ∷ rest) of_first (All-cons P later rest of_later (All-tail P first rest is.least));
    }

-- a pair that comes before all others is kept
kept_first : (first : Pair) (rest kept : List Pair) → All (ComesBefore first) rest → IsMerged rest kept → IsMerged (first ∷ rest) (first ∷ kept)
kept_first first rest kept before is =
    let P : Pair → Type 0 = λ other. Any (IsNoMore other) (first ∷ kept) in
    record {
      ascending = ascends_cons first kept (All-weaker (Contains rest) (ComesBefore first) (λ pair in'. All-contains (ComesBefore first) rest pair before in') kept is.among) is.ascending;
      among = All-cons (Contains (first ∷ rest)) first kept (contains_here first rest) (All-weaker (Contains rest) (Contains (first ∷ rest)) (λ pair in'. contains_there pair first rest in') kept is.among);
      least =
          All-cons P first rest (any_here (IsNoMore first) first kept (no_more_itself first))
          (All-weaker (λ other. Any (IsNoMore other) kept) P (λ other any. any_there (IsNoMore other) first kept any) rest is.least);
    }

dedup_from_merges : (first : Pair) (rest : List Pair) → AllPairs NoLater (first ∷ rest) → IsMerged (first ∷ rest) (dedup_from has_place_of first rest)
dedup_from_merges first [] up = alone first
dedup_from_merges first (later ∷ rest) up =
    let up' = no_later_tail first (later ∷ rest) up in
    let from_first = no_later_head first (later ∷ rest) up in
    let no_later : NoLater first later = All-head (NoLater first) later rest from_first in
    let from_later = no_later_head later rest up' in
    elim (cases_Bool (has_place_of later first)) [
      | inl same ↦
          let without : AllPairs NoLater (first ∷ rest) = AllPairs-cons NoLater first rest (All-tail (NoLater first) later rest from_first) (no_later_tail later rest up') in
          rw same (left_out first later rest (dedup_from has_place_of first rest) (first_is_least first later same no_later) (dedup_from_merges first rest without))
      | inr other ↦
          let before : ComesBefore first later = first_is_before first later other no_later in
          let far : All (ComesBefore first) rest = All-weaker (NoLater later) (ComesBefore first) (λ pair behind. before_all first later pair before behind) rest from_later in
          rw other (kept_first first (later ∷ rest) (dedup_from has_place_of later rest) (All-cons (ComesBefore first) later rest before far) (dedup_from_merges later rest up'))
    ]

-- sorted pairs
pub dedup_merges : (pairs : List Pair) → AllPairs NoLater pairs → IsMerged pairs (dedup has_place_of pairs)
dedup_merges [] up = record { ascending = ascends_nil; among = All-nil (Contains []); least = All-nil (λ pair. Any (IsNoMore pair) []) }
dedup_merges (first ∷ rest) up = dedup_from_merges first rest up

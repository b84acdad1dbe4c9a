-- Pairs that are sorted by source, then by target, then by weight.
use Rattle.std.proofs.Common.{◌≡◌, ◌<◌, false, List, Ordering, Less, Equal, Greater, refl, sym, inl, inr, arith}
use Rattle.std.specs.Prelude.{AllPairs}
use Rattle.std.specs.Cmp.{IsStrictWeakOrder, IsTotalOrder}
use Rattle.std.specs.List.Sorted.{IsSortedBy}
use Rattle.std.specs.Ordering.{MatchOrdering, is_lt, nat_cmp, ordering_then}
use Rattle.std.proofs.lemmas.Cmp.{nat_cmp_total, on_total, ranked, then_total}
use Rattle.std.proofs.lemmas.List.Sorted.{ranks_by, sorted_far}
use Rattle.fg_model.specs.declared.edges.Pair.{Pair}
use Rattle.fg_text.proofs.OrderLemmas.{NoLater}

-- how two pairs compare
abbrev pub pair_cmp : Pair → Pair → Ordering
pair_cmp one other = ordering_then (ordering_then (nat_cmp one.source other.source) (nat_cmp one.target other.target)) (nat_cmp one.weight other.weight)

pair_total : IsTotalOrder pair_cmp
pair_total =
    then_total (then_total (on_total (λ (pair : Pair). pair.source) nat_cmp_total) (on_total (λ (pair : Pair). pair.target) nat_cmp_total))
    (on_total (λ (pair : Pair). pair.weight) nat_cmp_total)

pub pair_order : IsStrictWeakOrder (λ one other. is_lt (pair_cmp one other))
pair_order = ranks_by pair_total (λ (pair : Pair). pair)

-- where another pair is not less, a pair stands no later than it
no_later_by : (one other : Pair) (by_source by_target by_weight : Ordering) →
    MatchOrdering by_source (other.source < one.source) (other.source ≡ one.source) (one.source < other.source) →
    MatchOrdering by_target (other.target < one.target) (other.target ≡ one.target) (one.target < other.target) →
    MatchOrdering by_weight (other.weight < one.weight) (other.weight ≡ one.weight) (one.weight < other.weight) →
    is_lt (ordering_then (ordering_then by_source by_target) by_weight) ≡ false → NoLater one other
no_later_by one other Less by_target by_weight source target weight no_less = absurd (cc no_less)
no_later_by one other Greater by_target by_weight source target weight no_less = inl (inl source)
no_later_by one other Equal Less by_weight source target weight no_less = absurd (cc no_less)
no_later_by one other Equal Greater by_weight source target weight no_less = inl (inr (sym source, target))
no_later_by one other Equal Equal Less source target weight no_less = absurd (cc no_less)
no_later_by one other Equal Equal Equal source target weight no_less = inr (record { source = sym source; target = sym target; weight = omega (arith, weight) })
no_later_by one other Equal Equal Greater source target weight no_less = inr (record { source = sym source; target = sym target; weight = omega (arith, weight) })

no_later : (one other : Pair) → is_lt (pair_cmp other one) ≡ false → NoLater one other
no_later one other no_less =
    no_later_by one other (nat_cmp other.source one.source) (nat_cmp other.target one.target) (nat_cmp other.weight one.weight)
    (ranked other.source one.source _ refl) (ranked other.target one.target _ refl) (ranked other.weight one.weight _ refl) no_less

-- once sorted, each pair stands no later than all behind it
pub no_later_sorted : (pairs : List Pair) → IsSortedBy (λ one other. is_lt (pair_cmp one other)) pairs → AllPairs NoLater pairs
no_later_sorted pairs sorted = λ i j d lt in'.
    no_later _ _ (sorted_far (λ one other. is_lt (pair_cmp one other)) pair_order pairs sorted i j d (omega arith) in')

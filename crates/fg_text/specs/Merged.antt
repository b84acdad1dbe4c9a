-- Pairs in order, each place once.
use Rattle.std.specs.Prelude.{◌≡◌, ◌≤◌, ◌==◌, ◌&&◌, ◌||◌, min, nat_lt, Bool, List, [], ◌∷◌, All, Any, Contains, if◌then◌else◌}
use Rattle.fg_model.specs.declared.edges.Pair.{Pair}
use Rattle.fg_model.specs.Edges.{Ascends}

-- a pair comes before another: by source, and at one source by target
abbrev pub comes_before : Pair → Pair → Bool
comes_before one other = nat_lt one.source other.source || ((one.source == other.source) && nat_lt one.target other.target)

-- a pair with the lesser weight of two
abbrev pub with_lesser : Pair → Pair → Pair
with_lesser one other = record { source = one.source; target = one.target; weight = min one.weight other.weight }

-- ascending pairs with one more, which goes to its place; where that is taken the lesser weight stays
abbrev pub with_pair : Pair → List Pair → List Pair
with_pair pair [] = pair ∷ []
with_pair pair (first ∷ rest) =
    if comes_before pair first then pair ∷ first ∷ rest
    else if comes_before first pair then first ∷ with_pair pair rest
    else with_lesser pair first ∷ rest

-- all pairs ascending by source and then by target, each of them once with its least weight
abbrev pub merged : List Pair → List Pair
merged [] = []
merged (pair ∷ pairs) = with_pair pair (merged pairs)

-- a pair of the same vertices that weighs no more
pub record IsNoMore (pair least : Pair) : Type 0 where
  pub source : least.source ≡ pair.source
  pub target : least.target ≡ pair.target
  pub weight : least.weight ≤ pair.weight

-- what merging means: ascending pairs, all of them from the list, and for each of the list one that weighs no more
pub record IsMerged (pairs kept : List Pair) : Type 0 where
  pub ascending : Ascends kept
  pub among : All (Contains pairs) kept
  pub least : All (λ pair. Any (IsNoMore pair) kept) pairs

-- two pairs are of the same vertices
abbrev pub has_place_of : Pair → Pair → Bool
has_place_of one other = (one.source == other.source) && (one.target == other.target)

-- Growth by parts of a list, and what is left of a list that was taken in parts, told or not.
use Rattle.std.proofs.Common.{min, ◌≡◌, ℕ, ◌+◌, List, [], ◌++◌, length, take, drop, Option, Some, None, IfSome, refl, ap, sym, ◌∙◌, arith}
use Rattle.std.proofs.lemmas.List.{append-nil, append_assoc}
use Rattle.std.proofs.lemmas.Grind.{common_steps}
use Rattle.std.proofs.Math.Seq.{take-add}
use Rattle.fg_base.specs.Told.{grown, led_by, GrewByFirst}
use Rattle.fg_base.proofs.ToldLemmas.{grown-nil, grown-grown}

-- by a first part of a list and then by what comes next in it
pub grown_by_parts : {X : Type 0} (told : Option (List X)) (list : List X) (done k : ℕ) →
    grown (grown told (take done list)) (take k (drop done list)) ≡ grown told (take (done + k) list)
grown_by_parts told list done k =
    grown-grown told (take done list) (take k (drop done list)) ∙ ap (grown told) (sym (take-add done k list))

-- no growth is growth by some first part
pub grew_by_none : {X : Type 0} (more : List X) (told : Option (List X)) → GrewByFirst more told told
grew_by_none more told = (0, sym (grown-nil told))

take_all_and : {X : Type 0} (first second : List X) (k : ℕ) → take (length first + k) (first ++ second) ≡ first ++ take k second
take_all_and first second k = grind (arith, common_steps, take-add (length first) k (first ++ second))

take_within : {X : Type 0} (first second : List X) (k : ℕ) → take k first ≡ take (min k (length first)) (first ++ second)
take_within first second k = grind (arith, common_steps)

-- by one list and then by some first part of another
pub grew_on : {X : Type 0} (first second : List X) (told new : Option (List X)) →
    GrewByFirst second (grown told first) new → GrewByFirst (first ++ second) told new
grew_on first second told new (k, grew) = (
  length first + k,
  grew ∙ grown-grown told first (take k second) ∙ ap (grown told) (sym (take_all_and first second k)),
)

-- by some first part of a first part
pub grew_before : {X : Type 0} (first second : List X) (told new : Option (List X)) →
    GrewByFirst first told new → GrewByFirst (first ++ second) told new
grew_before first second told new (k, grew) =
    (min k (length first), grew ∙ ap (grown told) (take_within first second k))

-- nothing taken
pub led_by_none : {X : Type 0} (left : Option (List X)) → led_by [] left ≡ left
led_by_none None = refl
led_by_none (Some list) = refl

-- one part taken and then another
pub led_by_twice : {X : Type 0} (first second : List X) (left : Option (List X)) →
    led_by first (led_by second left) ≡ led_by (first ++ second) left
led_by_twice first second None = refl
led_by_twice first second (Some list) = ap Some (sym (append_assoc first second list))

-- what was taken before the end is all that there was
pub led_to_end : {X : Type 0} (front : List X) (left : Option (List X)) →
    IfSome left (λ list. list ≡ []) → IfSome (led_by front left) (λ list. list ≡ front)
led_to_end front None end = end
led_to_end front (Some list) end = ap (λ rest. front ++ rest) end ∙ append-nil front

-- for a loop that grows what is told part by part
pub ruleset growth = (grown-nil, grown-grown, grown_by_parts)

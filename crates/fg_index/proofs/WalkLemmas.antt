-- From the start of its group to a vertex.
use Rattle.std.proofs.Common.{◌≡◌, ◌∙◌, ◌∷◌, [], ℕ, ◌+◌, ◌-◌, ◌*◌, ◌/◌, ◌<◌, ◌≤◌, true, false, List, length, take, drop, get_or, sum, refl, ap, subst, arith, eqb}
use Rattle.std.proofs.lemmas.Bool.{ne_eqb, eq-eqb}
use Rattle.std.proofs.lemmas.List.{get_or-drop}
use Rattle.fg_index.specs.declared.below.Below.{Below}
use Rattle.fg_index.specs.Degrees.{longs_in, next_degree, joined}
use Rattle.fg_index.specs.DegreesParts.{IsBelow, IsDegrees, nothing}
use Rattle.fg_index.proofs.JoinedLemmas.{sum-stretch, longs-stretch, longs_in-take-le, longs_in-more, joined-get}

pub start_is : (low long : List ℕ) (starts : List Below) (total v : ℕ) → IsDegrees low long starts total → v < length low →
    IsBelow low long (v / 32 * 32) (get_or starts (v / 32) nothing)
start_is low long starts total v is within =
    let group = v / 32 in
    let there : group < length starts = omega (arith, is.enough, within) in
    let e : 32 * group ≡ group * 32 = omega arith in
    let P : ℕ → Type 0 = λ vertex. IsBelow low long vertex (get_or starts group nothing) in
    subst P e (is.starts_are group there)

pub walked_is : (low long : List ℕ) (from to : ℕ) (start result : Below) → from ≤ to → IsBelow low long from start →
    result.degrees ≡ start.degrees + sum (joined (take (to - from) (drop from low)) (drop start.longs long)) →
    result.longs ≡ start.longs + longs_in (take (to - from) (drop from low)) → IsBelow low long to result
walked_is low long from to start result le is degrees longs =
    let e : drop start.longs long ≡ drop (longs_in (take from low)) long = ap (λ n. drop n long) is.longs in
    let more : result.degrees ≡ start.degrees + sum (joined (take (to - from) (drop from low)) (drop (longs_in (take from low)) long)) =
    degrees ∙ ap (λ l. start.degrees + sum (joined (take (to - from) (drop from low)) l)) e in
    record {
      degrees = omega (arith, more, is.degrees, sum-stretch low long from to le);
      longs = omega (arith, longs, is.longs, longs-stretch low from to le);
    }

-- the long degrees of a stretch are there
pub longs_there : (low long : List ℕ) (from to : ℕ) (start : Below) → from ≤ to → length long ≡ longs_in low → IsBelow low long from start →
    start.longs + longs_in (take (to - from) (drop from low)) ≤ length long
longs_there low long from to start le each is = omega (arith, is.longs, longs-stretch low from to le, longs_in-take-le low to, each)

pub short_get : (low long : List ℕ) (v : ℕ) → v < length low → (get_or low v 0 ≡ 255 → ⊥) → get_or (joined low long) v 0 ≡ get_or low v 0
short_get low long v within short =
    let isnt : eqb (get_or low v 0) 255 ≡ false = ne_eqb (get_or low v 0) 255 short in
    let one : next_degree (get_or low v 0) (drop (longs_in (take v low)) long) ≡ get_or low v 0 = rw isnt refl in
    joined-get low long v within ∙ one

pub long_get : (low long : List ℕ) (v : ℕ) → v < length low → get_or low v 0 ≡ 255 → get_or (joined low long) v 0 ≡ get_or long (longs_in (take v low)) 0
long_get low long v within is =
    let yes : eqb (get_or low v 0) 255 ≡ true = eq-eqb (get_or low v 0) 255 is in
    let n = longs_in (take v low) in
    let one : next_degree (get_or low v 0) (drop n long) ≡ get_or (drop n long) 0 0 = rw yes refl in
    let e : n + 0 ≡ n = omega arith in
    joined-get low long v within ∙ one ∙ get_or-drop n long 0 0 ∙ ap (λ k. get_or long k 0) e

pub long_there : (low : List ℕ) (v : ℕ) → v < length low → get_or low v 0 ≡ 255 → longs_in (take v low) < longs_in low
long_there low v within is =
    let one : longs_in (get_or low v 0 ∷ []) ≡ 1 = rw is refl in
    omega (arith, longs_in-more low v within, one, longs_in-take-le low (v + 1))

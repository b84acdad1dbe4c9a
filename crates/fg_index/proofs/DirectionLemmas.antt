-- What a direction's bytes give, by their first fault.
use Rattle.std.proofs.Common.{◌≡◌, ◌∙◌, ℕ, ◌+◌, ◌*◌, ◌<◌, ◌≤◌, true, false, List, length, take, drop, Result, Err, refl, sym, ap, arith, ltb, eqb}
use Rattle.std.proofs.lemmas.Bool.{lt-ltb, le-ltb, ne_eqb, eq-eqb}
use Rattle.fg_index.specs.Degrees.{longs_in}
use Rattle.fg_index.specs.Direction.{degrees_at, count_at, summed, direction_at}

pub no_bytes : (n entries : ℕ) (bytes : List ℕ) → length bytes < n → direction_at n entries bytes ≡ Err 0
unfolding direction_at
no_bytes n entries bytes h =
    let is : ltb (length bytes) n ≡ true = lt-ltb (length bytes) n h in
    rw is refl

pub no_count : (n entries : ℕ) (bytes : List ℕ) → n ≤ length bytes → length bytes < n + 4 → direction_at n entries bytes ≡ Err n
unfolding direction_at
no_count n entries bytes fits h =
    let isnt : ltb (length bytes) n ≡ false = le-ltb (length bytes) n fits in
    let is : ltb (length bytes) (n + 4) ≡ true = lt-ltb (length bytes) (n + 4) h in
    rw (isnt, is) refl

pub miscounted : (n entries : ℕ) (bytes : List ℕ) → n + 4 ≤ length bytes → (longs_in (take n bytes) ≡ count_at n bytes → ⊥) → direction_at n entries bytes ≡ Err n
unfolding direction_at
miscounted n entries bytes fits ne =
    let isnt : ltb (length bytes) n ≡ false = le-ltb (length bytes) n (omega arith) in
    let isnt_either : ltb (length bytes) (n + 4) ≡ false = le-ltb (length bytes) (n + 4) fits in
    let differs : eqb (longs_in (take n bytes)) (count_at n bytes) ≡ false = ne_eqb (longs_in (take n bytes)) (count_at n bytes) ne in
    rw (isnt, isnt_either, differs) refl

pub counted : (n entries : ℕ) (bytes : List ℕ) → n + 4 ≤ length bytes → longs_in (take n bytes) ≡ count_at n bytes →
    direction_at n entries bytes ≡ summed n entries (degrees_at 0 0 (take n bytes) (take (8 * count_at n bytes) (drop (n + 4) bytes)))
unfolding direction_at
counted n entries bytes fits e =
    let isnt : ltb (length bytes) n ≡ false = le-ltb (length bytes) n (omega arith) in
    let isnt_either : ltb (length bytes) (n + 4) ≡ false = le-ltb (length bytes) (n + 4) fits in
    let same : eqb (longs_in (take n bytes)) (count_at n bytes) ≡ true = eq-eqb (longs_in (take n bytes)) (count_at n bytes) e in
    rw (isnt, isnt_either, same) refl

-- the same, where each part is known by an equation
pub counted_of : (n entries count longs : ℕ) (bytes pairs : List ℕ) (read : Result (List ℕ) ℕ) → n + 4 ≤ length bytes → count ≡ count_at n bytes →
    pairs ≡ take (8 * count) (drop (n + 4) bytes) → longs ≡ longs_in (take n bytes) → longs ≡ count → read ≡ degrees_at 0 0 (take n bytes) pairs →
    direction_at n entries bytes ≡ summed n entries read
counted_of n entries count longs bytes pairs read fits count_is pairs_is longs_is same read_is =
    let all_pairs : pairs ≡ take (8 * count_at n bytes) (drop (n + 4) bytes) = pairs_is ∙ ap (λ k. take (8 * k) (drop (n + 4) bytes)) count_is in
    counted n entries bytes fits (sym longs_is ∙ same ∙ count_is)
    ∙ ap (λ ps. summed n entries (degrees_at 0 0 (take n bytes) ps)) (sym all_pairs) ∙ ap (summed n entries) (sym read_is)

-- An index that is spelled in bytes is read as it was.
use Rattle.std.proofs.Common.{◌≡◌, ℕ, ◌+◌, ◌*◌, ◌^◌, ◌<◌, ◌≤◌, true, false, cond, Option, Some, None, Ok, Err, List, [], ◌∷◌, ◌++◌, length, take, drop, map, min, sum, refl, sym, ap, ◌∙◌, append_assoc, append-nil, arith, eqb, leb, inl, inr, take_at, drop_at}
use Rattle.std.specs.Prelude.{All}
use Rattle.std.specs.Cmp.Derive.{both_true}
use Rattle.std.proofs.lemmas.Bool.{cases_Bool, cond-true, leb-true, leb-false, eq-eqb, ne_eqb, le-leb}
use Rattle.std.proofs.lemmas.List.{drop-drop, length-append, length-map}
use Rattle.std.proofs.lemmas.List.Elements.{All-head, All-tail}
use Rattle.std.proofs.lemmas.List.Sums.{count_by-le-length, sum_by-cons}
use Rattle.byteorder.specs.Endian.{little_bytes}
use Rattle.byteorder.specs.Numbers.{little_number-reads_back}
use Rattle.fg_index.specs.Degrees.{is_long, longs_in}
use Rattle.fg_index.specs.Direction.{count_at, degree_of, degrees_at, direction_at, direction_len, is_pair_of, led_by, number_in, pairs_left, summed}
use Rattle.fg_index.specs.ImageIndex.{index_at}
use Rattle.fg_index.proofs.DirectionLemmas.{counted}
use Rattle.fg_index.proofs.IndexLemmas.{whole}
use Rattle.fg_image.specs.Made.{long_pairs, spelled_direction}
use Rattle.fg_image.specs.Making.{byte_of, index_bytes, long_degrees, pair_bytes}

-- four bytes read back
number_back : (number : ℕ) (rest : List ℕ) → number < 2 ^ 32 → number_in (little_bytes 4 number ++ rest) ≡ number
unfolding number_in
number_back number rest fits = little_number-reads_back 4 number rest fits

-- what one vertex's byte and pair give
record Gives (vertex degree : ℕ) (rest : List ℕ) : Type 0 where
  pub is : degree_of vertex (byte_of degree) (pair_bytes vertex degree ++ rest) ≡ Some degree
  pub left : pairs_left (byte_of degree) (pair_bytes vertex degree ++ rest) ≡ rest
  pub longs : longs_in (byte_of degree ∷ []) ≡ long_degrees (degree ∷ [])
  pub bytes : length (pair_bytes vertex degree) ≡ 8 * long_degrees (degree ∷ [])

gives_short : (vertex degree : ℕ) (rest : List ℕ) → degree < 255 → leb 255 degree ≡ false → Gives vertex degree rest
gives_short vertex degree rest below short =
    let same : min degree 255 ≡ degree = omega arith in
    let plain : eqb degree 255 ≡ false = ne_eqb degree 255 (λ e. absurd (omega arith)) in
    record {
      is = rw (same, short, plain) refl;
      left = rw (same, short, plain) refl;
      longs = rw (same, short, plain) refl;
      bytes = rw short refl;
    }

gives_long : (vertex degree : ℕ) (rest : List ℕ) → 255 ≤ degree → leb 255 degree ≡ true → vertex < 2 ^ 32 → degree < 2 ^ 32 → Gives vertex degree rest
gives_long vertex degree rest above long vertex_fits degree_fits =
    let same : min degree 255 ≡ 255 = omega arith in
    let pair = little_bytes 4 vertex ++ little_bytes 4 degree in
    let second : number_in (drop 4 (pair ++ rest)) ≡ degree = number_back degree rest degree_fits in
    let first : number_in (pair ++ rest) ≡ vertex = number_back vertex (little_bytes 4 degree ++ rest) vertex_fits in
    let enough : leb 8 (length (pair ++ rest)) ≡ true = le-leb 8 (length (pair ++ rest)) (omega arith) in
    let its_own : is_pair_of vertex (pair ++ rest) ≡ true =
    both_true (both_true enough (eq-eqb _ _ first)) (le-leb 255 (number_in (drop 4 (pair ++ rest))) (omega (arith, second))) in
    record {
      is = rw (same, long) (cond-true (is_pair_of vertex (pair ++ rest)) (Some (number_in (drop 4 (pair ++ rest)))) None its_own ∙ ap (λ (d : ℕ). Some d) second);
      left = rw (same, long) refl;
      longs = rw (same, long) refl;
      bytes = rw long refl;
    }

gives : (vertex degree : ℕ) (rest : List ℕ) → vertex < 2 ^ 32 → degree < 2 ^ 32 → Gives vertex degree rest
gives vertex degree rest vertex_fits degree_fits =
    elim (cases_Bool (leb 255 degree)) [
      | inl long ↦ gives_long vertex degree rest (leb-true 255 degree long) long vertex_fits degree_fits
      | inr short ↦ gives_short vertex degree rest (leb-false 255 degree short) short
    ]

-- a vertex read in front of those behind it
degrees_at-step : (vertex pair byte degree : ℕ) (low pairs rest degrees : List ℕ) → degree_of vertex byte pairs ≡ Some degree → pairs_left byte pairs ≡ rest
    → ((next : ℕ) → degrees_at (vertex + 1) next low rest ≡ Ok degrees) → degrees_at vertex pair (byte ∷ low) pairs ≡ Ok (degree ∷ degrees)
unfolding degrees_at
degrees_at-step vertex pair byte degree low pairs rest degrees is left behind =
    let next = pair + longs_in (byte ∷ []) in
    let later : degrees_at (vertex + 1) next low (pairs_left byte pairs) ≡ Ok degrees =
    ap (degrees_at (vertex + 1) next low) left ∙ behind next in
    ap (λ (found : Option ℕ). led_by pair found (degrees_at (vertex + 1) next low (pairs_left byte pairs))) is
    ∙ ap (led_by pair (Some degree)) later

-- degrees are read back from their bytes and pairs
degrees_back : (vertex pair : ℕ) (degrees : List ℕ) → vertex + length degrees ≤ 2 ^ 32 → All (λ degree. degree < 2 ^ 32) degrees
    → degrees_at vertex pair (map byte_of degrees) (long_pairs vertex degrees) ≡ Ok degrees
unfolding degrees_at
degrees_back vertex pair [] few fits = refl
degrees_back vertex pair (degree ∷ degrees) few fits =
    let here = gives vertex degree (long_pairs (vertex + 1) degrees) (omega arith) (All-head (λ d. d < 2 ^ 32) degree degrees fits) in
    degrees_at-step vertex pair (byte_of degree) degree (map byte_of degrees) _ (long_pairs (vertex + 1) degrees) degrees here.is here.left
    (λ next. degrees_back (vertex + 1) next degrees (omega arith) (All-tail (λ d. d < 2 ^ 32) degree degrees fits))

longs_back : (degrees : List ℕ) → All (λ degree. degree < 2 ^ 32) degrees → longs_in (map byte_of degrees) ≡ long_degrees degrees
longs_back [] fits = refl
longs_back (degree ∷ degrees) fits =
    let here = gives 0 degree [] (omega arith) (All-head (λ d. d < 2 ^ 32) degree degrees fits) in
    let rest = longs_back degrees (All-tail (λ d. d < 2 ^ 32) degree degrees fits) in
    sum_by-cons (λ byte. cond (is_long byte) 1 0) (byte_of degree) (map byte_of degrees)
    ∙ omega (arith, here.longs, rest, sum_by-cons (λ d. cond (leb 255 d) 1 0) degree degrees)

length-pairs : (vertex : ℕ) (degrees : List ℕ) → vertex + length degrees ≤ 2 ^ 32 → All (λ degree. degree < 2 ^ 32) degrees
    → length (long_pairs vertex degrees) ≡ 8 * long_degrees degrees
length-pairs vertex [] few fits = refl
length-pairs vertex (degree ∷ degrees) few fits =
    let here = gives vertex degree [] (omega arith) (All-head (λ d. d < 2 ^ 32) degree degrees fits) in
    let rest = length-pairs (vertex + 1) degrees (omega arith) (All-tail (λ d. d < 2 ^ 32) degree degrees fits) in
    length-append (pair_bytes vertex degree) (long_pairs (vertex + 1) degrees)
    ∙ omega (arith, here.bytes, rest, sum_by-cons (λ d. cond (leb 255 d) 1 0) degree degrees)

-- degrees of so many vertices and entries, each of which fits into four bytes
pub record AreDegrees (n entries : ℕ) (degrees : List ℕ) : Type 0 where
  pub each : length degrees ≡ n
  pub all : sum degrees ≡ entries
  pub few : n ≤ 2 ^ 24
  pub fit : All (λ degree. degree < 2 ^ 32) degrees

module _ (n entries : ℕ) (degrees rest : List ℕ) (are : AreDegrees n entries degrees) where
  long_few : long_degrees degrees ≤ n
  long_few = omega (arith, count_by-le-length (λ d. leb 255 d) degrees, are.each)

  -- the bytes, the count, the pairs, what is behind
  parted : spelled_direction degrees ++ rest ≡ map byte_of degrees ++ (little_bytes 4 (long_degrees degrees) ++ (long_pairs 0 degrees ++ rest))
  parted =
      append_assoc (map byte_of degrees ++ little_bytes 4 (long_degrees degrees)) (long_pairs 0 degrees) rest
      ∙ append_assoc (map byte_of degrees) (little_bytes 4 (long_degrees degrees)) (long_pairs 0 degrees ++ rest)

  each_low : length (map byte_of degrees) ≡ n
  each_low = length-map degrees byte_of ∙ are.each

  behind_low : drop n (spelled_direction degrees ++ rest) ≡ little_bytes 4 (long_degrees degrees) ++ (long_pairs 0 degrees ++ rest)
  behind_low = ap (drop n) parted ∙ drop_at (map byte_of degrees) (little_bytes 4 (long_degrees degrees) ++ (long_pairs 0 degrees ++ rest)) n each_low

  front_low : take n (spelled_direction degrees ++ rest) ≡ map byte_of degrees
  front_low = ap (take n) parted ∙ take_at (map byte_of degrees) (little_bytes 4 (long_degrees degrees) ++ (long_pairs 0 degrees ++ rest)) n each_low

  count_back : count_at n (spelled_direction degrees ++ rest) ≡ long_degrees degrees
  count_back = ap number_in behind_low ∙ number_back (long_degrees degrees) (long_pairs 0 degrees ++ rest) (omega (arith, long_few, are.few))

  all_pairs : length (long_pairs 0 degrees) ≡ 8 * long_degrees degrees
  all_pairs = length-pairs 0 degrees (omega (arith, are.each, are.few)) are.fit

  behind_count : drop (n + 4) (spelled_direction degrees ++ rest) ≡ long_pairs 0 degrees ++ rest
  behind_count = sym (drop-drop 4 n (spelled_direction degrees ++ rest)) ∙ ap (drop 4) behind_low

  pub length-direction_bytes : length (spelled_direction degrees) ≡ n + 4 + 8 * long_degrees degrees
  length-direction_bytes =
      let count = little_bytes 4 (long_degrees degrees) in
      length-append (map byte_of degrees ++ count) (long_pairs 0 degrees)
      ∙ omega (arith, length-append (map byte_of degrees) count, each_low, all_pairs)

  pub direction_len-is : direction_len n (spelled_direction degrees ++ rest) ≡ length (spelled_direction degrees)
  direction_len-is = ap (λ (count : ℕ). n + 4 + 8 * count) count_back ∙ sym length-direction_bytes

  -- one direction is read back
  pub direction_back : direction_at n entries (spelled_direction degrees ++ rest) ≡ Ok degrees
  direction_back =
      let bytes = spelled_direction degrees ++ rest in
      let long = length-append (spelled_direction degrees) rest in
      let enough : n + 4 ≤ length bytes = omega (arith, long, length-direction_bytes) in
      let right : longs_in (take n bytes) ≡ count_at n bytes = ap longs_in front_low ∙ longs_back degrees are.fit ∙ sym count_back in
      let pairs : take (8 * count_at n bytes) (drop (n + 4) bytes) ≡ long_pairs 0 degrees =
      ap (λ (count : ℕ). take (8 * count) (drop (n + 4) bytes)) count_back ∙ ap (take (8 * long_degrees degrees)) behind_count
      ∙ take_at (long_pairs 0 degrees) rest (8 * long_degrees degrees) all_pairs in
      let read : degrees_at 0 0 (take n bytes) (take (8 * count_at n bytes) (drop (n + 4) bytes)) ≡ Ok degrees =
      ap (λ (low : List ℕ). degrees_at 0 0 low (take (8 * count_at n bytes) (drop (n + 4) bytes))) front_low
      ∙ ap (degrees_at 0 0 (map byte_of degrees)) pairs
      ∙ degrees_back 0 0 degrees (omega (arith, are.each, are.few)) are.fit in
      counted n entries bytes enough right ∙ ap (summed n entries) read
      ∙ cond-true (eqb (sum degrees) entries) (Ok degrees) (Err 0) (eq-eqb (sum degrees) entries are.all)

-- an index is read back
pub index_back : (n out_entries in_entries : ℕ) (outs ins : List ℕ) → AreDegrees n out_entries outs → AreDegrees n in_entries ins
    → index_at n out_entries in_entries (index_bytes outs ins) ≡ Ok (outs, ins)
index_back n out_entries in_entries outs ins are_outs are_ins =
    let first = spelled_direction outs in
    let second = spelled_direction ins in
    let behind : drop (length first) (first ++ second) ≡ second = drop_at first second (length first) refl in
    let bare = append-nil second in
    let middle : length first ≡ direction_len n (first ++ second) = sym (direction_len-is n out_entries outs second are_outs) in
    let read : direction_at n in_entries (drop (length first) (first ++ second)) ≡ Ok ins =
    ap (direction_at n in_entries) (behind ∙ sym bare) ∙ direction_back n in_entries ins [] are_ins in
    let len : length second ≡ direction_len n (drop (length first) (first ++ second)) =
    sym (ap (direction_len n) (behind ∙ sym bare) ∙ direction_len-is n in_entries ins [] are_ins) in
    whole n out_entries in_entries (length first) (length second) (first ++ second) outs ins (direction_back n out_entries outs second are_outs) middle read len
    (omega (arith, length-append first second))

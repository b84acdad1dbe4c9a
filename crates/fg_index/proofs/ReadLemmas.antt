-- Steps of reading a direction's bytes beside its pairs.
use Rattle.std.proofs.Common.{◌≡◌, ◌∙◌, ◌++◌, ◌∷◌, [], ℕ, ◌+◌, ◌*◌, ◌<◌, ◌≤◌, List, length, drop, get_or, Some, None, Result, Ok, Err, refl, sym, ap, arith, inl, inr}
use Rattle.std.proofs.lemmas.Bool.{cases_Bool}
use Rattle.std.proofs.lemmas.List.{drop-drop, drop_more, drop_all, append_assoc, append-nil}
use Rattle.fg_index.specs.Degrees.{is_long, longs_in}
use Rattle.fg_index.specs.Direction.{degree_of, pairs_left, with_front, led_by, degrees_at}

degrees_at-cons : (vertex pair byte : ℕ) (low pairs : List ℕ) →
    degrees_at vertex pair (byte ∷ low) pairs ≡ led_by pair (degree_of vertex byte pairs) (degrees_at (vertex + 1) (pair + longs_in (byte ∷ [])) low (pairs_left byte pairs))
unfolding degrees_at
degrees_at-cons vertex pair byte low pairs = refl

degrees_at-nil : (vertex pair : ℕ) (pairs : List ℕ) → degrees_at vertex pair [] pairs ≡ Ok []
unfolding degrees_at
degrees_at-nil vertex pair pairs = refl

with_front-with_front : (front more : List ℕ) (found : Result (List ℕ) ℕ) → with_front front (with_front more found) ≡ with_front (front ++ more) found
with_front-with_front front more (Ok degrees) = ap (λ l. Ok l) (sym (append_assoc front more degrees))
with_front-with_front front more (Err pair) = refl

pub with_front-nil : (found : Result (List ℕ) ℕ) → with_front [] found ≡ found
with_front-nil (Ok degrees) = refl
with_front-nil (Err pair) = refl

pairs_left-drop : (byte taken : ℕ) (pairs : List ℕ) → pairs_left byte (drop (8 * taken) pairs) ≡ drop (8 * (taken + longs_in (byte ∷ []))) pairs
pairs_left-drop byte taken pairs =
    elim (cases_Bool (is_long byte)) [
      | inl is ↦
          let one : longs_in (byte ∷ []) ≡ 1 = rw is refl in
          let e : 8 * taken + 8 ≡ 8 * (taken + longs_in (byte ∷ [])) = omega (arith, one) in
          let left : pairs_left byte (drop (8 * taken) pairs) ≡ drop 8 (drop (8 * taken) pairs) = rw is refl in
          left ∙ drop-drop 8 (8 * taken) pairs ∙ ap (λ n. drop n pairs) e
      | inr isnt ↦
          let none : longs_in (byte ∷ []) ≡ 0 = rw isnt refl in
          let e : 8 * taken ≡ 8 * (taken + longs_in (byte ∷ [])) = omega (arith, none) in
          let left : pairs_left byte (drop (8 * taken) pairs) ≡ drop (8 * taken) pairs = rw isnt refl in
          left ∙ ap (λ n. drop n pairs) e
    ]

-- what is found from a place on, by the byte there
here : (low pairs : List ℕ) (i taken : ℕ) → i < length low →
    degrees_at i taken (drop i low) (drop (8 * taken) pairs) ≡ led_by taken (degree_of i (get_or low i 0) (drop (8 * taken) pairs))
    (degrees_at (i + 1) (taken + longs_in (get_or low i 0 ∷ [])) (drop (i + 1) low) (drop (8 * (taken + longs_in (get_or low i 0 ∷ []))) pairs))
here low pairs i taken h =
    let byte = get_or low i 0 in
    let behind = degrees_at (i + 1) (taken + longs_in (byte ∷ [])) (drop (i + 1) low) in
    ap (λ l. degrees_at i taken l (drop (8 * taken) pairs)) (drop_more low i 0 h)
    ∙ degrees_at-cons i taken byte (drop (i + 1) low) (drop (8 * taken) pairs)
    ∙ ap (λ ps. led_by taken (degree_of i byte (drop (8 * taken) pairs)) (behind ps)) (pairs_left-drop byte taken pairs)

-- one vertex more was read
pub read_more : (low pairs kept : List ℕ) (i taken degree : ℕ) → i < length low → degree_of i (get_or low i 0) (drop (8 * taken) pairs) ≡ Some degree →
    with_front kept (degrees_at i taken (drop i low) (drop (8 * taken) pairs))
    ≡ with_front (kept ++ degree ∷ []) (degrees_at (i + 1) (taken + longs_in (get_or low i 0 ∷ [])) (drop (i + 1) low) (drop (8 * (taken + longs_in (get_or low i 0 ∷ []))) pairs))
read_more low pairs kept i taken degree h is =
    let behind = degrees_at (i + 1) (taken + longs_in (get_or low i 0 ∷ [])) (drop (i + 1) low) (drop (8 * (taken + longs_in (get_or low i 0 ∷ []))) pairs) in
    ap (with_front kept) (here low pairs i taken h ∙ ap (λ found. led_by taken found behind) is) ∙ with_front-with_front kept (degree ∷ []) behind

-- the pair is at fault
pub read_fault : (low pairs kept : List ℕ) (i taken : ℕ) → i < length low → degree_of i (get_or low i 0) (drop (8 * taken) pairs) ≡ None →
    with_front kept (degrees_at i taken (drop i low) (drop (8 * taken) pairs)) ≡ Err taken
read_fault low pairs kept i taken h is =
    let behind = degrees_at (i + 1) (taken + longs_in (get_or low i 0 ∷ [])) (drop (i + 1) low) (drop (8 * (taken + longs_in (get_or low i 0 ∷ []))) pairs) in
    ap (with_front kept) (here low pairs i taken h ∙ ap (λ found. led_by taken found behind) is)

-- all vertices were read
pub read_all : (low pairs kept : List ℕ) (i taken : ℕ) → length low ≤ i → with_front kept (degrees_at i taken (drop i low) (drop (8 * taken) pairs)) ≡ Ok kept
read_all low pairs kept i taken h =
    ap (with_front kept) (ap (λ l. degrees_at i taken l (drop (8 * taken) pairs)) (drop_all i low h) ∙ degrees_at-nil i taken (drop (8 * taken) pairs))
    ∙ ap (λ l. Ok l) (append-nil kept)

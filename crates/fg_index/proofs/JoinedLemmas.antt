-- Lists of bytes and long degrees joined: cut, pushed, looked up.
use Rattle.std.proofs.Common.{◌≡◌, ◌∙◌, ◌++◌, ◌∷◌, [], ℕ, ◌+◌, ◌-◌, ◌<◌, ◌≤◌, zero, suc, List, length, take, drop, get_or, cond, sum, refl, sym, ap, arith, inl, inr}
use Rattle.std.proofs.lemmas.Bool.{cases_Bool}
use Rattle.std.proofs.lemmas.List.{drop-drop, take_more, take-append-drop, take-take, drop-take, drop_more, get_or_at, length-take-le}
use Rattle.std.proofs.lemmas.List.Sums.{sum_by-append, sum_by-take-le, sum_by-take-drop, count_by-le-length}
use Rattle.fg_index.specs.Degrees.{is_long, longs_in, next_degree, next_long, joined}

pub longs_in-append : (low more : List ℕ) → longs_in (low ++ more) ≡ longs_in low + longs_in more
longs_in-append low more = sum_by-append (λ b. cond (is_long b) 1 0) low more

pub longs_in-cons : (byte : ℕ) (low : List ℕ) → longs_in (byte ∷ low) ≡ longs_in (byte ∷ []) + longs_in low
longs_in-cons byte low = longs_in-append (byte ∷ []) low

pub longs_in-take-le : (low : List ℕ) (i : ℕ) → longs_in (take i low) ≤ longs_in low
longs_in-take-le low i = sum_by-take-le (λ b. cond (is_long b) 1 0) low i

pub longs_in-cut : (low : List ℕ) (i : ℕ) → longs_in (take i low) + longs_in (drop i low) ≡ longs_in low
longs_in-cut low i = sum_by-take-drop (λ b. cond (is_long b) 1 0) low i

pub longs_in-one-le : (byte : ℕ) → longs_in (byte ∷ []) ≤ 1
longs_in-one-le byte = count_by-le-length is_long (byte ∷ [])

pub longs_in-more : (low : List ℕ) (i : ℕ) → i < length low → longs_in (take (i + 1) low) ≡ longs_in (take i low) + longs_in (get_or low i 0 ∷ [])
longs_in-more low i h = ap longs_in (take_more low i 0 h) ∙ longs_in-append (take i low) (get_or low i 0 ∷ [])

pub joined-nil : (long : List ℕ) → joined [] long ≡ []
unfolding joined
joined-nil long = refl

pub joined-one : (byte : ℕ) (long : List ℕ) → joined (byte ∷ []) long ≡ next_degree byte long ∷ []
unfolding joined
joined-one byte long = refl

pub joined-cons : (byte : ℕ) (low long : List ℕ) → joined (byte ∷ low) long ≡ next_degree byte long ∷ joined low (next_long byte long)
unfolding joined
joined-cons byte low long = refl

pub joined-length : (low long : List ℕ) → length (joined low long) ≡ length low
unfolding joined
joined-length [] long = refl
joined-length (byte ∷ low) long = ap suc (joined-length low (next_long byte long))

pub next_long-drop : (byte : ℕ) (long : List ℕ) → next_long byte long ≡ drop (longs_in (byte ∷ [])) long
next_long-drop byte long = elim (cases_Bool (is_long byte)) [ inl is ↦ rw is refl | inr isnt ↦ rw isnt refl ]

-- the long degrees that a first part took are gone for the second one
pub joined-append : (low more long : List ℕ) → joined (low ++ more) long ≡ joined low long ++ joined more (drop (longs_in low) long)
unfolding joined
joined-append [] more long = refl
joined-append (byte ∷ low) more long =
    let here = next_long-drop byte long in
    let later = joined-append low more (next_long byte long) in
    let gone : drop (longs_in low) (next_long byte long) ≡ drop (longs_in (byte ∷ low)) long =
    ap (drop (longs_in low)) here ∙ drop-drop (longs_in low) (longs_in (byte ∷ [])) long ∙ ap (λ n. drop n long) (sym (longs_in-cons byte low)) in
    ap (λ ds. next_degree byte long ∷ ds) (later ∙ ap (λ l. joined low (next_long byte long) ++ joined more l) gone)

pub joined-take : (vertex : ℕ) (low long : List ℕ) → take vertex (joined low long) ≡ joined (take vertex low) long
unfolding joined
joined-take zero low long = refl
joined-take (suc vertex) [] long = refl
joined-take (suc vertex) (byte ∷ low) long = ap (λ ds. next_degree byte long ∷ ds) (joined-take vertex low (next_long byte long))

-- a list up to a place is the list up to an earlier one and the stretch between
pub take-stretch : (low : List ℕ) (from to : ℕ) → from ≤ to → take to low ≡ take from low ++ take (to - from) (drop from low)
take-stretch low from to h =
    let whole = sym (take-append-drop from (take to low)) in
    let first : take from (take to low) ≡ take from low = take-take from to low h in
    let e : from + (to - from) ≡ to = omega arith in
    let second : drop from (take to low) ≡ take (to - from) (drop from low) = ap (λ n. drop from (take n low)) (sym e) ∙ drop-take from (to - from) low in
    whole ∙ ap (λ l. l ++ drop from (take to low)) first ∙ ap (λ l. take from low ++ l) second

sum-append : (xs ys : List ℕ) → sum (xs ++ ys) ≡ sum xs + sum ys
sum-append xs ys = sum_by-append (λ x. x) xs ys

pub sum-one : (x : ℕ) → sum (x ∷ []) ≡ x
sum-one x = omega arith

pub sum-push : (xs : List ℕ) (x : ℕ) → sum (xs ++ x ∷ []) ≡ sum xs + x
sum-push xs x = sum-append xs (x ∷ []) ∙ ap (λ n. sum xs + n) (sum-one x)

-- the sum of the degrees up to a vertex, from that up to an earlier one
pub sum-stretch : (low long : List ℕ) (from to : ℕ) → from ≤ to →
    sum (take to (joined low long)) ≡ sum (take from (joined low long)) + sum (joined (take (to - from) (drop from low)) (drop (longs_in (take from low)) long))
sum-stretch low long from to h =
    ap sum (joined-take to low long ∙ ap (λ l. joined l long) (take-stretch low from to h) ∙ joined-append (take from low) (take (to - from) (drop from low)) long)
    ∙ sum-append (joined (take from low) long) (joined (take (to - from) (drop from low)) (drop (longs_in (take from low)) long))
    ∙ ap (λ l. sum l + sum (joined (take (to - from) (drop from low)) (drop (longs_in (take from low)) long))) (sym (joined-take from low long))

pub longs-stretch : (low : List ℕ) (from to : ℕ) → from ≤ to → longs_in (take to low) ≡ longs_in (take from low) + longs_in (take (to - from) (drop from low))
longs-stretch low from to h = ap longs_in (take-stretch low from to h) ∙ longs_in-append (take from low) (take (to - from) (drop from low))

-- one vertex more
pub sum-more : (low long : List ℕ) (before i : ℕ) → i < length low →
    sum (joined (take (i + 1) low) (drop before long)) ≡ sum (joined (take i low) (drop before long)) + next_degree (get_or low i 0) (drop (before + longs_in (take i low)) long)
sum-more low long before i h =
    let left = drop before long in
    let byte = get_or low i 0 in
    let gone : drop (longs_in (take i low)) left ≡ drop (before + longs_in (take i low)) long = drop-drop (longs_in (take i low)) before long in
    ap (λ l. sum (joined l left)) (take_more low i 0 h)
    ∙ ap sum (joined-append (take i low) (byte ∷ []) left ∙ ap (λ l. joined (take i low) left ++ l) (joined-one byte (drop (longs_in (take i low)) left)))
    ∙ sum-push (joined (take i low) left) (next_degree byte (drop (longs_in (take i low)) left))
    ∙ ap (λ l. sum (joined (take i low) left) + next_degree byte l) gone

-- the degree of one vertex
pub joined-get : (low long : List ℕ) (v : ℕ) → v < length low → get_or (joined low long) v 0 ≡ next_degree (get_or low v 0) (drop (longs_in (take v low)) long)
joined-get low long v h =
    let byte = get_or low v 0 in
    let left = drop (longs_in (take v low)) long in
    let cut : low ≡ take v low ++ byte ∷ drop (v + 1) low = sym (take-append-drop v low) ∙ ap (λ l. take v low ++ l) (drop_more low v 0 h) in
    let short : length (joined (take v low) long) ≡ v = joined-length (take v low) long ∙ length-take-le v low (omega arith) in
    ap (λ l. get_or (joined l long) v 0) cut
    ∙ ap (λ l. get_or l v 0) (joined-append (take v low) (byte ∷ drop (v + 1) low) long ∙ ap (λ l. joined (take v low) long ++ l) (joined-cons byte (drop (v + 1) low) left))
    ∙ get_or_at (joined (take v low) long) (next_degree byte left) (joined (drop (v + 1) low) (next_long byte left)) 0 v short

-- long degrees that no byte stands for are not joined in
pub joined-enough : (low long more : List ℕ) → longs_in low ≤ length long → joined low (long ++ more) ≡ joined low long
unfolding joined
joined-enough [] long more h = refl
joined-enough (byte ∷ low) [] more h =
    elim (cases_Bool (is_long byte)) [
      | inl is ↦
          let one : longs_in (byte ∷ []) ≡ 1 = rw is refl in
          absurd (omega (arith, longs_in-cons byte low, one, h))
      | inr isnt ↦
          let none : longs_in (byte ∷ []) ≡ 0 = rw isnt refl in
          let fits : longs_in low ≤ 0 = omega (arith, longs_in-cons byte low, none, h) in
          rw isnt (ap (λ ds. byte ∷ ds) (joined-enough low [] more fits))
    ]
joined-enough (byte ∷ low) (x ∷ long) more h =
    elim (cases_Bool (is_long byte)) [
      | inl is ↦
          let one : longs_in (byte ∷ []) ≡ 1 = rw is refl in
          let fits : longs_in low ≤ length long = omega (arith, longs_in-cons byte low, one, h) in
          rw is (ap (λ ds. x ∷ ds) (joined-enough low long more fits))
      | inr isnt ↦
          let none : longs_in (byte ∷ []) ≡ 0 = rw isnt refl in
          let fits : longs_in low ≤ length (x ∷ long) = omega (arith, longs_in-cons byte low, none, h) in
          rw isnt (ap (λ ds. byte ∷ ds) (joined-enough low (x ∷ long) more fits))
    ]

-- Keys stand for their entries, and ascending keys that are the same but for their order are the same.
use Rattle.std.proofs.Common.{◌≡◌, ℕ, suc, ◌+◌, ◌*◌, ◌/◌, ◌%◌, ◌^◌, ◌<◌, Bool, true, false, cond, List, [], ◌∷◌, map, refl, sym, ap, subst, ◌∙◌, arith, eqb, inl, inr}
use Rattle.std.specs.Prelude.{All, sum_by}
use Rattle.std.specs.List.Sorted.{IsNonDecreasingBy, IsPermutation, IsSorted}
use Rattle.std.specs.Ordering.{nat_cmp}
use Rattle.std.proofs.lemmas.Bool.{cases_order, eq-eqb, ne_eqb}
use Rattle.std.proofs.lemmas.List.Elements.{All-from_get_or, All-head, All-tail}
use Rattle.std.proofs.lemmas.List.Sorted.{IsNonDecreasingBy-from_sort, IsPermutation-map, IsPermutation-sym, IsPermutation-trans, sum_by-IsPermutation}
use Rattle.std.proofs.lemmas.List.Sums.{sum_by-cons}
use Rattle.fg_base.specs.declared.plain.Entry.{Entry}
use Rattle.fg_image.specs.Turned.{key_of}
use Rattle.fg_model.specs.Graph.{IsEntryOf}

-- the entry of a key
unkeyed : Bool → ℕ → Entry
unkeyed true key = record { target = key / 2 ^ 32; weight = key % 2 ^ 32 }
unkeyed false key = record { target = key; weight = 1 }

unkeyed-key : (weighted : Bool) (entry : Entry) → IsEntryOf weighted entry → unkeyed weighted (key_of weighted entry) ≡ entry
unfolding unkeyed
unkeyed-key true entry is =
    let weight = is.weight_fits in
    let first : (entry.target * 4294967296 + entry.weight) / 4294967296 ≡ entry.target = omega arith in
    let last : (entry.target * 4294967296 + entry.weight) % 4294967296 ≡ entry.weight = omega arith in
    made _ _ entry first last
  where
    made : (t w : ℕ) (e : Entry) → t ≡ e.target → w ≡ e.weight → (let one : Entry = record { target = t; weight = w } in one ≡ e)
    made t w e p q = rw (p, q) refl
unkeyed-key false entry is = plain entry (is.weight_plain refl)
  where
    plain : (e : Entry) → e.weight ≡ 1 → (let one : Entry = record { target = e.target; weight = 1 } in one ≡ e)
    plain e p = rw (← p) refl

unkeyed-keys : (weighted : Bool) (entries : List Entry) → All (IsEntryOf weighted) entries → map (unkeyed weighted) (map (key_of weighted) entries) ≡ entries
unkeyed-keys weighted [] all = refl
unkeyed-keys weighted (entry ∷ entries) all =
    let rest = map (unkeyed weighted) (map (key_of weighted) entries) in
    ap (λ (e : Entry). e ∷ rest) (unkeyed-key weighted entry (All-head (IsEntryOf weighted) entry entries all))
    ∙ ap (λ (l : List Entry). entry ∷ l) (unkeyed-keys weighted entries (All-tail (IsEntryOf weighted) entry entries all))

-- entries whose keys are the same but for their order are so themselves, and back
pub entries_same : (weighted : Bool) (xs ys : List Entry) → All (IsEntryOf weighted) xs → All (IsEntryOf weighted) ys
    → IsPermutation (map (key_of weighted) xs) (map (key_of weighted) ys) → IsPermutation xs ys
entries_same weighted xs ys all_xs all_ys same =
    let back = map (unkeyed weighted) (map (key_of weighted) xs) in
    let P : List Entry → Type 0 = λ l. IsPermutation l ys in
    let Q : List Entry → Type 0 = λ l. IsPermutation back l in
    subst P (unkeyed-keys weighted xs all_xs)
    (subst Q (unkeyed-keys weighted ys all_ys) (IsPermutation-map (unkeyed weighted) (map (key_of weighted) xs) (map (key_of weighted) ys) same))

pub keys_same : (weighted : Bool) (xs ys : List Entry) → IsPermutation xs ys → IsPermutation (map (key_of weighted) xs) (map (key_of weighted) ys)
keys_same weighted xs ys same = IsPermutation-map (key_of weighted) xs ys same

-- one where the number is k
hit : ℕ → ℕ → ℕ
hit k x = cond (eqb x k) 1 0

hit-own : (k : ℕ) → hit k k ≡ 1
unfolding hit
hit-own k = let own : eqb k k ≡ true = eq-eqb k k refl in rw own refl

hit-other : (k x : ℕ) → (x ≡ k → ⊥) → hit k x ≡ 0
unfolding hit
hit-other k x other = let isnt : eqb x k ≡ false = ne_eqb x k other in rw isnt refl

-- numbers above k have no k among them
none-above : (k : ℕ) (xs : List ℕ) → All (λ x. k < x) xs → sum_by (hit k) xs ≡ 0
none-above k [] above = refl
none-above k (x ∷ xs) above =
    let here = All-head (λ y. k < y) x xs above in
    let none = hit-other k x (λ same. omega (arith, here, same)) in
    omega (arith, sum_by-cons (hit k) x xs, none, none-above k xs (All-tail (λ y. k < y) x xs above))

abbrev Ascends : List ℕ → Type 0
Ascends xs = IsNonDecreasingBy (λ x. x) xs

ascends-tail : (x : ℕ) (xs : List ℕ) → Ascends (x ∷ xs) → Ascends xs
ascends-tail x xs ascends = λ i j d from below. ascends (suc i) (suc j) d (omega arith) (omega arith)

-- all of an ascending list are above what is below its first
ascends-above : (k x : ℕ) (xs : List ℕ) → Ascends (x ∷ xs) → k < x → All (λ y. k < y) (x ∷ xs)
ascends-above k x xs ascends less =
    All-from_get_or (λ y. k < y) (x ∷ xs) x (λ i below. let least = ascends 0 i x (omega arith) below in omega (arith, least, less))

-- a first number that is less than the other list's isn't there
lacks-first : (x y : ℕ) (xs ys : List ℕ) → Ascends (y ∷ ys) → ((k : ℕ) → sum_by (hit k) (x ∷ xs) ≡ sum_by (hit k) (y ∷ ys)) → x < y → ⊥
lacks-first x y xs ys ascends same less =
    let none = none-above x (y ∷ ys) (ascends-above x y ys ascends less) in
    omega (arith, sum_by-cons (hit x) x xs, hit-own x, same x, none)

ascending_same : (xs ys : List ℕ) → Ascends xs → Ascends ys → ((k : ℕ) → sum_by (hit k) xs ≡ sum_by (hit k) ys) → xs ≡ ys
ascending_same [] [] ascends others same = refl
ascending_same [] (y ∷ ys) ascends others same = absurd (omega (arith, sum_by-cons (hit y) y ys, hit-own y, same y))
ascending_same (x ∷ xs) [] ascends others same = absurd (omega (arith, sum_by-cons (hit x) x xs, hit-own x, same x))
ascending_same (x ∷ xs) (y ∷ ys) ascends others same = elim (cases_order x y) [
  | inl is ↦
      let rest = ascending_same xs ys (ascends-tail x xs ascends) (ascends-tail y ys others)
      (λ k. let heads = ap (hit k) is in omega (arith, heads, same k, sum_by-cons (hit k) x xs, sum_by-cons (hit k) y ys)) in
      ap (λ (z : ℕ). z ∷ xs) is ∙ ap (λ (l : List ℕ). y ∷ l) rest
  | inr (inl less) ↦ absurd (lacks-first x y xs ys others same less)
  | inr (inr more) ↦ absurd (lacks-first y x ys xs ascends (λ k. sym (same k)) more)
]

-- sorted numbers are the same just where they were so but for their order
pub sorted_same : (xs ys up others : List ℕ) → IsPermutation xs up → IsPermutation ys others → IsSorted nat_cmp up → IsSorted nat_cmp others
    → IsPermutation ys xs → up ≡ others
sorted_same xs ys up others of_xs of_ys sorted sorted_others same =
    ascending_same up others (IsNonDecreasingBy-from_sort (λ x. x) up sorted) (IsNonDecreasingBy-from_sort (λ x. x) others sorted_others)
    (λ k. sum_by-IsPermutation (hit k) xs up of_xs ∙ sum_by-IsPermutation (hit k) ys xs same ∙ sym (sum_by-IsPermutation (hit k) ys others of_ys))

pub unsorted_same : (xs ys up others : List ℕ) → IsPermutation xs up → IsPermutation ys others → up ≡ others → IsPermutation ys xs
unsorted_same xs ys up others of_xs of_ys same =
    let P : List ℕ → Type 0 = λ l. IsPermutation ys l in
    IsPermutation-trans ys up xs (subst P (sym same) of_ys) (IsPermutation-sym xs up of_xs)

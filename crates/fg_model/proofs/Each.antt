-- What holds of each item of a list, by recursion.
use Rattle.std.proofs.Common.{◌≡◌, ℕ, zero, suc, ◌+◌, ◌<◌, ◌≤◌, Bool, true, false, cond, List, [], ◌∷◌, ◌++◌, map, inl, inr, refl, subst, arith}
use Rattle.std.specs.Prelude.{All, Contains, filter}
use Rattle.std.specs.List.{flat_map, range_with_len}
use Rattle.std.proofs.lemmas.Bool.{cases_eq}
use Rattle.std.proofs.lemmas.List.Elements.{All-cons, All-nil, All-head, All-tail, All-contains, All-contains_itself}

abbrev pub Each : {X : Type 0} → (X → Type 0) → List X → Type 0
Each P [] = Unit {0}
Each P (x ∷ xs) = P x × Each P xs

pub each_from_all : {X : Type 0} (P : X → Type 0) (xs : List X) → All P xs → Each P xs
each_from_all P [] all = tt
each_from_all P (x ∷ xs) all = (All-head P x xs all, each_from_all P xs (All-tail P x xs all))

pub all_from_each : {X : Type 0} (P : X → Type 0) (xs : List X) → Each P xs → All P xs
all_from_each P [] each = All-nil P
all_from_each P (x ∷ xs) each = All-cons P x xs each.0 (all_from_each P xs each.1)

pub each_at : {X : Type 0} (P : X → Type 0) (xs : List X) (x : X) → Each P xs → Contains xs x → P x
each_at P xs x each has = All-contains P xs x (all_from_each P xs each) has

pub each_weaker : {X : Type 0} (P Q : X → Type 0) → ((x : X) → P x → Q x) → (xs : List X) → Each P xs → Each Q xs
each_weaker P Q weaker [] each = tt
each_weaker P Q weaker (x ∷ xs) each = (weaker x each.0, each_weaker P Q weaker xs each.1)

pub each_of : {X : Type 0} (P : X → Type 0) (xs : List X) → ((x : X) → Contains xs x → P x) → Each P xs
each_of P xs of = each_weaker (Contains xs) P of xs (each_from_all (Contains xs) xs (All-contains_itself xs))

pub each-append : {X : Type 0} (P : X → Type 0) (xs ys : List X) → Each P xs → Each P ys → Each P (xs ++ ys)
each-append P [] ys first next = next
each-append P (x ∷ xs) ys first next = (first.0, each-append P xs ys first.1 next)

pub each_parts : {X : Type 0} (P : X → Type 0) (xs ys : List X) → Each P (xs ++ ys) → Each P xs × Each P ys
each_parts P [] ys each = (tt, each)
each_parts P (x ∷ xs) ys each = let parts = each_parts P xs ys each.1 in ((each.0, parts.0), parts.1)

pub each-map : {X Y : Type 0} (P : Y → Type 0) (f : X → Y) (xs : List X) → Each (λ x. P (f x)) xs → Each P (map f xs)
each-map P f [] each = tt
each-map P f (x ∷ xs) each = (each.0, each-map P f xs each.1)

pub each_mapped : {X Y : Type 0} (P : Y → Type 0) (f : X → Y) (xs : List X) → Each P (map f xs) → Each (λ x. P (f x)) xs
each_mapped P f [] each = tt
each_mapped P f (x ∷ xs) each = (each.0, each_mapped P f xs each.1)

-- what the numbers that pass a test give, put together
step_up : {X : Type 0} (P : X → Type 0) (f : ℕ → List X) (passes : Bool) (a : ℕ) (rest : List ℕ) → (passes ≡ true → Each P (f a)) → Each P (flat_map f rest) → Each P (flat_map f (cond passes (a ∷ rest) rest))
step_up P f true a rest here each = each-append P (f a) (flat_map f rest) (here refl) each
step_up P f false a rest here each = each

step_down : {X : Type 0} (P : X → Type 0) (f : ℕ → List X) (passes : Bool) (a : ℕ) (rest : List ℕ) → Each P (flat_map f (cond passes (a ∷ rest) rest)) → (passes ≡ true → Each P (f a)) × Each P (flat_map f rest)
step_down P f true a rest each = let parts = each_parts P (f a) (flat_map f rest) each in ((λ is. parts.0), parts.1)
step_down P f false a rest each = ((λ is. absurd (cc)), each)

pub each_passing : {X : Type 0} (P : X → Type 0) (f : ℕ → List X) (test : ℕ → Bool) (a n : ℕ) → ((v : ℕ) → v < a + n → test v ≡ true → Each P (f v)) → Each P (flat_map f (filter test (range_with_len a n)))
each_passing P f test a zero of = tt
each_passing P f test a (suc n) of =
    step_up P f (test a) a (filter test (range_with_len (a + 1) n)) (of a (omega arith)) (each_passing P f test (a + 1) n (λ v below passes. of v (omega arith) passes))

pub passing_each : {X : Type 0} (P : X → Type 0) (f : ℕ → List X) (test : ℕ → Bool) (a n v : ℕ) → Each P (flat_map f (filter test (range_with_len a n))) → a ≤ v → v < a + n → test v ≡ true → Each P (f v)
passing_each P f test a zero v each from below passes = absurd (omega arith)
passing_each P f test a (suc n) v each from below passes =
    let parts = step_down P f (test a) a (filter test (range_with_len (a + 1) n)) each in
    elim (cases_eq a v) [
      | inl same ↦ let Here : ℕ → Type 0 = λ u. test u ≡ true → Each P (f u) in subst Here same parts.0 passes
      | inr other ↦ passing_each P f test (a + 1) n v parts.1 (omega (arith, other)) (omega arith) passes
    ]

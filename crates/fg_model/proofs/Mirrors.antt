-- The in-lists of a mirror and the entries that they are turned from.
use Rattle.std.proofs.Common.{◌≡◌, ℕ, zero, suc, ◌+◌, ◌<◌, ◌≤◌, Bool, true, false, cond, List, [], ◌∷◌, length, map, inl, inr, refl, subst, arith}
use Rattle.std.specs.Prelude.{◌==◌, All, filter}
use Rattle.std.specs.List.{flat_map, range_with_len}
use Rattle.std.proofs.lemmas.Bool.{cases_eq, eq-eqb, eqb-true}
use Rattle.std.proofs.lemmas.List.Elements.{All-get_or}
use Rattle.std.proofs.lemmas.List.Sorted.{All-permutation, IsPermutation-sym}
use Rattle.fg_base.specs.declared.plain.Entry.{Entry}
use Rattle.fg_model.specs.declared.graph.Graph.{Graph}
use Rattle.fg_model.specs.Graph.{AllLead, row}
use Rattle.fg_model.specs.Mirror.{IsMirror, turned_to}
use Rattle.fg_model.proofs.Each.{Each, all_from_each, each-append, each-map, each_from_all, each_mapped, each_parts, each_weaker}

-- an entry turned round
abbrev pub turned : ℕ → Entry → Entry
turned u entry = record { target = u; weight = entry.weight }

filter_up_by : {X : Type 0} (Q : X → Type 0) (test : X → Bool) (x : X) (b : Bool) → test x ≡ b → (rest : List X) → (test x ≡ true → Q x) → Each Q rest → Each Q (cond b (x ∷ rest) rest)
filter_up_by Q test x true is rest here each = (here is, each)
filter_up_by Q test x false is rest here each = each

filter_down_by : {X : Type 0} (Q : X → Type 0) (test : X → Bool) (x : X) (b : Bool) → test x ≡ b → (rest : List X) → Each Q (cond b (x ∷ rest) rest) → (test x ≡ true → Q x) × Each Q rest
filter_down_by Q test x true is rest each = ((λ passes. each.0), each.1)
filter_down_by Q test x false is rest each = ((λ passes. absurd (cc)), each)

-- of a filtered list, from what holds of those that pass, and back
filter_up : {X : Type 0} (Q : X → Type 0) (test : X → Bool) (xs : List X) → Each (λ x. test x ≡ true → Q x) xs → Each Q (filter test xs)
filter_up Q test [] each = tt
filter_up Q test (x ∷ xs) each = filter_up_by Q test x (test x) refl (filter test xs) each.0 (filter_up Q test xs each.1)

filter_down : {X : Type 0} (Q : X → Type 0) (test : X → Bool) (xs : List X) → Each Q (filter test xs) → Each (λ x. test x ≡ true → Q x) xs
filter_down Q test [] each = tt
filter_down Q test (x ∷ xs) each =
    let parts = filter_down_by Q test x (test x) refl (filter test xs) each in
    (parts.0, filter_down Q test xs parts.1)

-- of lists put behind one another
flat_up : {X : Type 0} (Q : X → Type 0) (f : ℕ → List X) (a n : ℕ) → ((u : ℕ) → u < a + n → Each Q (f u)) → Each Q (flat_map f (range_with_len a n))
flat_up Q f a zero of = tt
flat_up Q f a (suc n) of = each-append Q (f a) (flat_map f (range_with_len (a + 1) n)) (of a (omega arith)) (flat_up Q f (a + 1) n (λ u below. of u (omega arith)))

flat_down : {X : Type 0} (Q : X → Type 0) (f : ℕ → List X) (a n u : ℕ) → Each Q (flat_map f (range_with_len a n)) → a ≤ u → u < a + n → Each Q (f u)
flat_down Q f a zero u each from below = absurd (omega arith)
flat_down Q f a (suc n) u each from below =
    let parts = each_parts Q (f a) (flat_map f (range_with_len (a + 1) n)) each in
    elim (cases_eq a u) [
      | inl same ↦ let Here : ℕ → Type 0 = λ w. Each Q (f w) in subst Here same parts.0
      | inr other ↦ flat_down Q f (a + 1) n u parts.1 (omega (arith, other)) (omega arith)
    ]

-- the turned entries of u that lead to v
abbrev turned_from : Graph → ℕ → ℕ → List Entry
turned_from graph v u = map (turned u) (filter (λ entry. entry.target == v) (row graph.outs u))

-- what holds of the turned entries that lead to v, and back
turned_up : (Q : Entry → Type 0) (graph : Graph) (v : ℕ) → ((u : ℕ) → u < graph.n → Each (λ entry. entry.target ≡ v → Q (turned u entry)) (row graph.outs u)) → Each Q (turned_to graph v)
turned_up Q graph v of = flat_up Q (turned_from graph v) 0 graph.n (λ u below.
    each-map Q (turned u) (filter (λ entry. entry.target == v) (row graph.outs u))
    (filter_up (λ entry. Q (turned u entry)) (λ entry. entry.target == v) (row graph.outs u)
    (each_weaker (λ entry. entry.target ≡ v → Q (turned u entry)) (λ entry. (entry.target == v) ≡ true → Q (turned u entry)) (λ entry holds passes. holds (eqb-true entry.target v passes)) (row graph.outs u) (of u (omega arith)))))

turned_down : (Q : Entry → Type 0) (graph : Graph) (v u : ℕ) → u < graph.n → Each Q (turned_to graph v) → Each (λ entry. entry.target ≡ v → Q (turned u entry)) (row graph.outs u)
turned_down Q graph v u below each =
    each_weaker (λ entry. (entry.target == v) ≡ true → Q (turned u entry)) (λ entry. entry.target ≡ v → Q (turned u entry)) (λ entry holds same. holds (eq-eqb entry.target v same)) (row graph.outs u)
    (filter_down (λ entry. Q (turned u entry)) (λ entry. entry.target == v) (row graph.outs u)
    (each_mapped Q (turned u) (filter (λ entry. entry.target == v) (row graph.outs u)) (flat_down Q (turned_from graph v) 0 graph.n u each (omega arith) (omega arith))))

-- what holds of each in-list, from all out-entries, and back
pub ins_each : (Q : Entry → Type 0) (graph : Graph) (v : ℕ) → IsMirror graph → v < graph.n
    → ((u : ℕ) → u < graph.n → Each (λ entry. entry.target ≡ v → Q (turned u entry)) (row graph.outs u)) → Each Q (row graph.ins v)
ins_each Q graph v mirror below of =
    each_from_all Q (row graph.ins v)
    (All-permutation Q (turned_to graph v) (row graph.ins v) (IsPermutation-sym (row graph.ins v) (turned_to graph v) (mirror.in_lists v below)) (all_from_each Q (turned_to graph v) (turned_up Q graph v of)))

pub ins_at : (Q : Entry → Type 0) (graph : Graph) (v u : ℕ) → IsMirror graph → v < graph.n → u < graph.n → Each Q (row graph.ins v) → Each (λ entry. entry.target ≡ v → Q (turned u entry)) (row graph.outs u)
ins_at Q graph v u mirror below from_below each =
    turned_down Q graph v u from_below (each_from_all Q (turned_to graph v) (All-permutation Q (row graph.ins v) (turned_to graph v) (mirror.in_lists v below) (all_from_each Q (row graph.ins v) each)))

-- every entry of a sound graph leads to a vertex
pub leads_below : (n v : ℕ) (rows : List (List Entry)) → AllLead n rows → v < length rows → Each (λ entry. entry.target < n) (row rows v)
leads_below n v rows all below =
    each_from_all (λ entry. entry.target < n) (row rows v) (All-get_or (λ entries. All (λ entry. entry.target < n) entries) rows v [] below all)

-- Entries counted by their targets, and by the sources that they are turned from.
use Rattle.std.proofs.Common.{◌≡◌, ℕ, suc, ◌+◌, ◌<◌, ◌≤◌, Bool, true, false, cond, List, [], ◌∷◌, length, map, refl, sym, ap, ◌∙◌, arith}
use Rattle.std.specs.Prelude.{◌==◌, count_by, filter, sum_by}
use Rattle.std.proofs.lemmas.Bool.{eq-eqb, ne_eqb}
use Rattle.std.proofs.lemmas.List.Folds.{fold-map}
use Rattle.std.proofs.lemmas.List.Sorted.{sum_by-IsPermutation}
use Rattle.std.proofs.lemmas.List.Sums.{length-filter, sum_by-cons}
use Rattle.fg_base.specs.declared.plain.Entry.{Entry}
use Rattle.fg_model.specs.declared.graph.Graph.{Graph}
use Rattle.fg_model.specs.Graph.{row}
use Rattle.fg_model.specs.Mirror.{IsMirror, turned_to}
use Rattle.fg_model.proofs.Each.{Each}
use Rattle.fg_model.proofs.Mirrors.{leads_below, turned}
use Rattle.fg_model.proofs.Totals.{only_if, only_if-add, sum_flat, total, total-add, total-nought, total-one, total-same}

-- 1 where a test passes
abbrev pub one_if : Bool → ℕ
one_if b = cond b 1 0

-- how many entries lead to v, and into a set
abbrev pub count_to : ℕ → List Entry → ℕ
count_to v entries = count_by (λ entry. entry.target == v) entries

abbrev pub count_into : (ℕ → Bool) → List Entry → ℕ
count_into set entries = count_by (λ entry. set entry.target) entries

pub into-cons : (set : ℕ → Bool) (entry : Entry) (entries : List Entry) → count_into set (entry ∷ entries) ≡ one_if (set entry.target) + count_into set entries
into-cons set entry entries = sum_by-cons (λ (e : Entry). one_if (set e.target)) entry entries

to-cons : (v : ℕ) (entry : Entry) (entries : List Entry) → count_to v (entry ∷ entries) ≡ one_if (entry.target == v) + count_to v entries
to-cons v entry entries = sum_by-cons (λ (e : Entry). one_if (e.target == v)) entry entries

-- all of them
one_here : (b : Bool) → b ≡ true → one_if b ≡ 1
one_here b is = rw is refl

none_here : (b : Bool) → b ≡ false → one_if b ≡ 0
none_here b is = rw is refl

pub count_all : (set : ℕ → Bool) (entries : List Entry) → Each (λ entry. set entry.target ≡ true) entries → count_into set entries ≡ length entries
count_all set [] each = refl
count_all set (entry ∷ entries) each = omega (arith, into-cons set entry entries, one_here (set entry.target) each.0, count_all set entries each.1)

-- more in a larger set
one_more : (b c : Bool) → (b ≡ true → c ≡ true) → one_if b ≤ one_if c
one_more true c more = omega (arith, one_here c (more refl))
one_more false c more = omega arith

pub count_more : (set other : ℕ → Bool) → ((u : ℕ) → set u ≡ true → other u ≡ true) → (entries : List Entry) → count_into set entries ≤ count_into other entries
count_more set other more [] = omega arith
count_more set other more (entry ∷ entries) =
    omega (arith, into-cons set entry entries, into-cons other entry entries, one_more (set entry.target) (other entry.target) (more entry.target), count_more set other more entries)

-- a set in two parts
pub count_split : (one other set : ℕ → Bool) (entries : List Entry) → Each (λ entry. one_if (one entry.target) + one_if (other entry.target) ≡ one_if (set entry.target)) entries
    → count_into one entries + count_into other entries ≡ count_into set entries
count_split one other set [] each = refl
count_split one other set (entry ∷ entries) each =
    omega (arith, into-cons one entry entries, into-cons other entry entries, into-cons set entry entries, each.0, count_split one other set entries each.1)

only_nothing : (b : Bool) (n : ℕ) → n ≡ 0 → only_if b n ≡ 0
only_nothing true n is = is
only_nothing false n is = refl

only_off : (b : Bool) (n : ℕ) → b ≡ false → only_if b n ≡ 0
only_off b n is = rw is refl

only_on : (b : Bool) (n : ℕ) → b ≡ true → only_if b n ≡ n
only_on b n is = rw is refl

only_one : (b : Bool) (n : ℕ) → n ≡ 1 → only_if b n ≡ one_if b
only_one true n is = is
only_one false n is = refl

-- one list, counted by its targets
only_same : (set : ℕ → Bool) (v u : ℕ) → (u ≡ v → ⊥) → only_if (set u) (one_if (v == u)) ≡ 0
only_same set v u other = only_nothing (set u) (one_if (v == u)) (none_here (v == u) (ne_eqb v u (λ is. other (sym is))))

by_target : (set : ℕ → Bool) (n : ℕ) (entries : List Entry) → Each (λ entry. entry.target < n) entries → total (λ u. only_if (set u) (count_to u entries)) 0 n ≡ count_into set entries
by_target set n [] each = total-nought (λ u. only_if (set u) 0) 0 n (λ u from below. only_nothing (set u) 0 refl)
by_target set n (entry ∷ entries) each =
    let v = entry.target in
    let split : total (λ u. only_if (set u) (count_to u (entry ∷ entries))) 0 n ≡ total (λ u. only_if (set u) (one_if (v == u)) + only_if (set u) (count_to u entries)) 0 n =
    total-same (λ u. only_if (set u) (count_to u (entry ∷ entries))) (λ u. only_if (set u) (one_if (v == u)) + only_if (set u) (count_to u entries)) 0 n
    (λ u from below. ap (only_if (set u)) (to-cons u entry entries) ∙ only_if-add (set u) (one_if (v == u)) (count_to u entries)) in
    let here : total (λ u. only_if (set u) (one_if (v == u))) 0 n ≡ only_if (set v) (one_if (v == v)) = total-one (λ u. only_if (set u) (one_if (v == u))) 0 n v (omega arith) (omega (arith, each.0)) (only_same set v) in
    omega (
      arith,
      split,
      total-add (λ u. only_if (set u) (one_if (v == u))) (λ u. only_if (set u) (count_to u entries)) 0 n,
      here,
      only_one (set v) (one_if (v == v)) (one_here (v == v) (eq-eqb v v refl)),
      by_target set n entries each.1,
      into-cons set entry entries,
    )

-- the entries that are turned from u lead into a set together or not at all
more_if : (b : Bool) (n : ℕ) → one_if b + only_if b n ≡ only_if b (suc n)
more_if true n = omega arith
more_if false n = refl

all_same : (b : Bool) (entries : List Entry) → sum_by (λ entry. one_if b) entries ≡ only_if b (length entries)
all_same b [] = sym (only_nothing b 0 refl)
all_same b (entry ∷ entries) = sum_by-cons (λ (e : Entry). one_if b) entry entries ∙ ap (λ (n : ℕ). one_if b + n) (all_same b entries) ∙ more_if b (length entries)

turned_into : (set : ℕ → Bool) (u v : ℕ) (entries : List Entry) → count_into set (map (turned u) (filter (λ entry. entry.target == v) entries)) ≡ only_if (set u) (count_to v entries)
turned_into set u v entries =
    let passing = filter (λ (entry : Entry). entry.target == v) entries in
    fold-map (λ (a : ℕ) (e : Entry). a + one_if (set e.target)) (turned u) 0 passing
    ∙ all_same (set u) passing ∙ ap (only_if (set u)) (length-filter (λ (entry : Entry). entry.target == v) entries)

count_turned : (set : ℕ → Bool) (graph : Graph) (v : ℕ) → count_into set (turned_to graph v) ≡ total (λ u. only_if (set u) (count_to v (row graph.outs u))) 0 graph.n
count_turned set graph v =
    let f : Entry → ℕ = λ e. one_if (set e.target) in
    let from : ℕ → List Entry = λ u. map (turned u) (filter (λ entry. entry.target == v) (row graph.outs u)) in
    sum_flat f from 0 graph.n
    ∙ total-same (λ u. sum_by f (from u)) (λ u. only_if (set u) (count_to v (row graph.outs u))) 0 graph.n (λ u from_u below. turned_into set u v (row graph.outs u))

-- of the sources in a set, the out-entries that lead to v are the in-entries of v that lead into the set
pub count_ins : (set : ℕ → Bool) (graph : Graph) (v : ℕ) → IsMirror graph → v < graph.n → total (λ u. only_if (set u) (count_to v (row graph.outs u))) 0 graph.n ≡ count_into set (row graph.ins v)
count_ins set graph v mirror below =
    sym (count_turned set graph v) ∙ sum_by-IsPermutation (λ (e : Entry). one_if (set e.target)) (row graph.ins v) (turned_to graph v) (mirror.in_lists v below)

-- and the in-entries that lead to v are the out-entries of v
in_to : (graph : Graph) (u v : ℕ) → IsMirror graph → u < graph.n → v < graph.n → count_to v (row graph.ins u) ≡ count_to u (row graph.outs v)
in_to graph u v mirror below to_below =
    let set : ℕ → Bool = λ w. w == v in
    sym (count_ins set graph u mirror below)
    ∙ total-one (λ w. only_if (set w) (count_to u (row graph.outs w))) 0 graph.n v (omega arith) (omega arith) (λ w other. only_off (set w) (count_to u (row graph.outs w)) (ne_eqb w v other))
    ∙ only_on (set v) (count_to u (row graph.outs v)) (eq-eqb v v refl)

pub count_outs : (set : ℕ → Bool) (graph : Graph) (v : ℕ) → IsMirror graph → length graph.outs ≡ graph.n → v < graph.n → total (λ u. only_if (set u) (count_to v (row graph.ins u))) 0 graph.n ≡ count_into set (row graph.outs v)
count_outs set graph v mirror rows below =
    total-same (λ u. only_if (set u) (count_to v (row graph.ins u))) (λ u. only_if (set u) (count_to u (row graph.outs v))) 0 graph.n
    (λ u from u_below. ap (only_if (set u)) (in_to graph u v mirror (omega arith) below))
    ∙ by_target set graph.n (row graph.outs v) (leads_below graph.n v graph.outs mirror.sound.out_targets (omega (arith, rows)))

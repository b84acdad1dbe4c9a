-- How often a block was drawn and a run was told of, with one more entry.
use Rattle.std.proofs.Common.{◌≡◌, ℕ, zero, suc, ◌+◌, ◌<◌, ◌≢◌, ◌⊎◌, inl, inr, ⊎_elim, Bool, cond, nat_eq, List, [], ◌∷◌, ◌++◌, refl, sym, arith}
use Rattle.std.proofs.lemmas.Bool.{eq-eqb, ne_eqb, cases_eq}
use Rattle.std.proofs.lemmas.List.Sums.{sum_by-cons, sum_by_push}
use Rattle.std.specs.List.{Contains}
use Rattle.fg_steal.specs.Claims.{is_draw_of, times_drawn}
use Rattle.fg_steal.specs.Run.{times_in}

abbrev pub one_if : Bool → ℕ
one_if b = cond b 1 0

-- an entry counts for its own part and block, and for no other
pub same_draw : (part k other j : ℕ) → part ≡ other → j ≡ k → one_if (is_draw_of part k (other, j)) ≡ 1
same_draw part k other j same block = rw (eq-eqb other part (sym same), eq-eqb j k block) refl

pub other_block : (part k other j : ℕ) → part ≡ other → j ≢ k → one_if (is_draw_of part k (other, j)) ≡ 0
other_block part k other j same differ = rw (eq-eqb other part (sym same), ne_eqb j k differ) refl

pub other_part : (part k other j : ℕ) → part ≢ other → one_if (is_draw_of part k (other, j)) ≡ 0
other_part part k other j differ = rw (ne_eqb other part (λ same. differ (sym same))) refl

pub times_more : (part k : ℕ) (draws : List (ℕ × ℕ)) (other j : ℕ) → times_drawn part k (draws ++ (other, j) ∷ []) ≡ times_drawn part k draws + one_if (is_draw_of part k (other, j))
times_more part k draws other j = sum_by_push (λ draw. one_if (is_draw_of part k draw)) draws (other, j)

pub same_run : (run other : ℕ) → other ≡ run → one_if (nat_eq other run) ≡ 1
same_run run other same = rw (eq-eqb other run same) refl

pub differing_run : (run other : ℕ) → other ≢ run → one_if (nat_eq other run) ≡ 0
differing_run run other differ = rw (ne_eqb other run differ) refl

pub times_again : (run other : ℕ) (runs : List ℕ) → times_in run (other ∷ runs) ≡ one_if (nat_eq other run) + times_in run runs
times_again run other runs = sum_by-cons (λ one. one_if (nat_eq one run)) other runs

-- a run that stands in a list of runs stands there at least once, and any other never
pub told_once : (run : ℕ) (runs : List ℕ) → Contains runs run → 0 < times_in run runs
told_once run [] (k, below, at) = absurd (omega arith)
told_once run (x ∷ xs) (zero, below, at) = omega (arith, times_again run x xs, same_run run x at)
told_once run (x ∷ xs) (suc k, below, at) = omega (arith, times_again run x xs, told_once run xs (k, omega arith, at))

pub never_told : (run : ℕ) (runs : List ℕ) → (Contains runs run → ⊥) → times_in run runs ≡ 0
never_told run [] missing = refl
never_told run (x ∷ xs) missing =
    let here : x ≢ run = λ same. missing (0, omega arith, same) in
    let there : Contains xs run → ⊥ = λ found. missing (suc found.0, omega (arith, found.1), found.2) in
    omega (arith, times_again run x xs, differing_run run x here, never_told run xs there)

-- and one that stands there at least once is found
pub found_in : (run : ℕ) (runs : List ℕ) → 0 < times_in run runs → Contains runs run
found_in run [] some = absurd (omega arith)
found_in run (x ∷ xs) some = ⊎_elim
    (λ (same : x ≡ run). (0, omega arith, same))
    (λ (differ : x ≢ run). let found = found_in run xs (omega (arith, times_again run x xs, differing_run run x differ)) in (suc found.0, omega (arith, found.1), found.2))
    (cases_eq x run)

-- in a list with one run more
pub here_first : (run : ℕ) (runs : List ℕ) → Contains (run ∷ runs) run
here_first run runs = (0, omega arith, refl)

pub further_on : (other run : ℕ) (runs : List ℕ) → Contains runs run → Contains (other ∷ runs) run
further_on other run runs found = (suc found.0, omega (arith, found.1), found.2)

pub first_or_further : (other run : ℕ) (runs : List ℕ) → Contains (other ∷ runs) run → (other ≡ run) ⊎ Contains runs run
first_or_further other run runs (zero, below, at) = inl at
first_or_further other run runs (suc k, below, at) = inr (k, omega arith, at)

-- What `take_run` gives and what it leaves are together the loads that waited.
use Rattle.std.proofs.Common.{◌≡◌, ◌≢◌, ◌∙◌, ◌++◌, ◌∷◌, [], ℕ, ◌+◌, ◌<◌, zero, suc, false, Option, Some, None, List, cond, refl, sym, ap, arith, inl, inr}
use Rattle.std.specs.List.{find}
use Rattle.std.specs.List.Sorted.{IsPermutation}
use Rattle.std.proofs.lemmas.Bool.{cases_Bool, eqb-true, ne_eqb, cond-true, cond-false}
use Rattle.std.proofs.lemmas.List.Sorted.{IsPermutation-refl, IsPermutation-cons, IsPermutation-trans, IsPermutation-middle}
use Rattle.fg_queue.specs.QueueStep.{is_of, led_by, run_from, run_of, without_oldest, rest_after}
use Rattle.fg_queue.specs.declared.load.Load.{Load}
use Rattle.fg_queue.proofs.RunLemmas.{find_is_of, run_from-none, run_from-some, run_from-zero}

-- the loads of other local pages stay
pub find-other : (local gone : ℕ) (loads : List Load) → local ≢ gone → find (is_of local) (without_oldest gone loads) ≡ find (is_of local) loads
find-other local gone [] ne = refl
find-other local gone (load ∷ loads) ne =
    elim (cases_Bool (is_of gone load)) [
      | inl is ↦
          let other : is_of local load ≡ false = ne_eqb load.local local (λ e. ne (sym e ∙ eqb-true load.local gone is)) in
          rw (is, other) refl
      | inr stays ↦ rw stays (ap (λ rest. cond (is_of local load) (Some load) rest) (find-other local gone loads ne))
    ]

run_from-other : (room local gone : ℕ) (loads : List Load) → gone < local → run_from room local (without_oldest gone loads) ≡ run_from room local loads
unfolding run_from
run_from-other zero local gone loads below = refl
run_from-other (suc room) local gone loads below =
    ap (λ found. led_by found (run_from room (local + 1) (without_oldest gone loads))) (find-other local gone loads (λ e. absurd (omega arith)))
    ∙ ap (λ run. led_by (find (is_of local) loads) run) (run_from-other room (local + 1) gone loads (omega arith))

-- the oldest load of a local page, and the others
oldest_out : (local : ℕ) (loads : List Load) (oldest : Load) → find (is_of local) loads ≡ Some oldest → IsPermutation loads (oldest ∷ without_oldest local loads)
oldest_out local [] oldest e = absurd (let no_way : ⊥ = cc in no_way)
oldest_out local (load ∷ loads) oldest e =
    elim (cases_Bool (is_of local load)) [
      | inl is ↦
          let same : load ≡ oldest = (let s : Some load ≡ Some oldest = sym (cond-true (is_of local load) (Some load) (find (is_of local) loads) is) ∙ e in cc) in
          rw (is, ← same) (IsPermutation-refl (load ∷ loads))
      | inr stays ↦
          let later = oldest_out local loads oldest (sym (cond-false (is_of local load) (Some load) (find (is_of local) loads) stays) ∙ e) in
          rw stays (IsPermutation-trans (load ∷ loads) (load ∷ oldest ∷ without_oldest local loads) (oldest ∷ load ∷ without_oldest local loads)
          (IsPermutation-cons load loads (oldest ∷ without_oldest local loads) later)
          (IsPermutation-middle (load ∷ []) oldest (without_oldest local loads)))
    ]

-- one more room, where the loads without the oldest one of this local page are known to be taken or left
one_more : (room local : ℕ) (loads : List Load) (found : Option Load) → find (is_of local) loads ≡ found →
    IsPermutation (without_oldest local loads) (run_from room (local + 1) (without_oldest local loads) ++ rest_after (run_from room (local + 1) (without_oldest local loads)) (without_oldest local loads)) →
    IsPermutation loads (run_from (suc room) local loads ++ rest_after (run_from (suc room) local loads) loads)
one_more room local loads None e others = rw (run_from-none (suc room) local loads e) (IsPermutation-refl loads)
one_more room local loads (Some oldest) e others =
    let left = without_oldest local loads in
    let run = run_from room (local + 1) loads in
    let same : run_from room (local + 1) left ≡ run = run_from-other room (local + 1) local loads (omega arith) in
    let rest : IsPermutation left (run ++ rest_after run left) = rw same at others in
    let gone : rest_after run (without_oldest oldest.local loads) ≡ rest_after run left =
    ap (λ l. rest_after run (without_oldest l loads)) (find_is_of local loads oldest e) in
    rw (run_from-some room local loads oldest e, gone)
    (IsPermutation-trans loads (oldest ∷ left) (oldest ∷ (run ++ rest_after run left)) (oldest_out local loads oldest e)
    (IsPermutation-cons oldest left (run ++ rest_after run left) rest))

all_from : (room local : ℕ) (loads : List Load) → IsPermutation loads (run_from room local loads ++ rest_after (run_from room local loads) loads)
all_from zero local loads = rw (run_from-zero local loads) (IsPermutation-refl loads)
all_from (suc room) local loads = one_more room local loads (find (is_of local) loads) refl (all_from room (local + 1) (without_oldest local loads))

-- no load is lost, and none is doubled
pub all_taken_or_left : (loads : List Load) → IsPermutation loads (run_of loads ++ rest_after (run_of loads) loads)
all_taken_or_left [] = IsPermutation-refl []
all_taken_or_left (oldest ∷ loads) = all_from 32 oldest.local (oldest ∷ loads)

-- The vertices of a block begin in ascending order.
use Rattle.std.proofs.Common.{◌≡◌, ℕ, ◌+◌, ◌-◌, ◌*◌, ◌<◌, ◌≤◌, Bool, true, false, List, [], ◌∷◌, ◌++◌, length, min, refl, sym, ap, ◌∙◌, subst, arith}
use Rattle.std.specs.Prelude.{filter}
use Rattle.std.specs.List.{range_with_len}
use Rattle.std.proofs.lemmas.List.{length-append}
use Rattle.std.proofs.lemmas.List.Elements.{filter-append}
use Rattle.std.proofs.lemmas.List.FromFn.{length-range_with_len}
use Rattle.std.proofs.lemmas.List.Sorted.{IsPermutation-refl}
use Rattle.fg_base.specs.declared.plain.VState.{VState}
use Rattle.fg_image.proofs.CellLaws.{range-split}
use Rattle.fg_image.proofs.GroupLaws.{range-more}
use Rattle.fg_model.specs.Iteration.{state_at}
use Rattle.fg_model.specs.Program.{Rules}
use Rattle.fg_part.specs.declared.part_map.PartMap.{PartMap}
use Rattle.fg_part.specs.PartMap.{block_size}
use Rattle.fg_task.specs.declared.job.Job.{Job}
use Rattle.fg_worker.specs.Beginning.{StandFor}
use Rattle.fg_task.specs.Block.{awake_of, block_active, block_vertices, mail_of, needed_of}
use Rattle.fg_worker.specs.Desk.{Setting}
use Rattle.fg_worker.specs.Jobs.{edges_by, mails_by}

-- no vertex has begun
pub stand-none : (S : Setting) (jobs : List Job) → jobs ≡ [] → StandFor S [] jobs
unfolding mail_of needed_of edges_by mails_by
stand-none S jobs none = subst (λ (l : List Job). StandFor S [] l) (sym none) (record {
  entries = refl;
  messages = λ image. IsPermutation-refl [];
  edges = λ image. IsPermutation-refl [];
  needed = λ page among. absurd (omega (arith, among.1));
  all_needed = λ page is. absurd (omega (arith, is.is_one.1));
})

pub length-filter : {X : Type 0} (p : X → Bool) (xs : List X) → length (filter p xs) ≤ length xs
length-filter p [] = omega arith
length-filter {X} p (x ∷ xs) = by_case (p x) refl (length-filter p xs)
  where
    by_case : (test : Bool) → p x ≡ test → length (filter p xs) ≤ length xs → length (filter p (x ∷ xs)) ≤ length (x ∷ xs)
    by_case true test few = rw test (omega (arith, few))
    by_case false test few = rw test (omega (arith, few))

module _ (P : Rules) (phase : ℕ) (states : List VState) where
  -- an active vertex, and another
  pub awake-one : (v : ℕ) → P.wake phase (state_at states v) ≡ true → awake_of P phase states (v ∷ []) ≡ v ∷ []
  awake-one v is = rw is refl

  pub awake-none : (v : ℕ) → P.wake phase (state_at states v) ≡ false → awake_of P phase states (v ∷ []) ≡ []
  awake-none v is = rw is refl

  -- those up to a vertex, and with it
  abbrev pub awake_from : ℕ → ℕ → List ℕ
  awake_from first v = awake_of P phase states (range_with_len first (v - first))

  pub awake-push : (first v : ℕ) → first ≤ v → awake_from first (v + 1) ≡ awake_from first v ++ awake_of P phase states (v ∷ [])
  awake-push first v from =
      let count : v + 1 - first ≡ (v - first) + 1 = omega (arith, from) in
      let last : first + (v - first) ≡ v = omega (arith, from) in
      ap (λ (n : ℕ). awake_of P phase states (range_with_len first n)) count
      ∙ ap (filter (λ u. P.wake phase (state_at states u))) (range-more first (v - first))
      ∙ filter-append (λ u. P.wake phase (state_at states u)) (range_with_len first (v - first)) ((first + (v - first)) ∷ [])
      ∙ ap (λ (u : ℕ). awake_from first v ++ awake_of P phase states (u ∷ [])) last

  pub awake-start : (first : ℕ) → awake_from first first ≡ []
  awake-start first =
      let none : first - first ≡ 0 = omega arith in
      ap (λ (n : ℕ). awake_of P phase states (range_with_len first n)) none

  pub length-push : (first v : ℕ) → first ≤ v → length (awake_from first (v + 1)) ≡ length (awake_from first v) + length (awake_of P phase states (v ∷ []))
  length-push first v from =
      ap (λ (l : List ℕ). length l) (awake-push first v from) ∙ length-append (awake_from first v) (awake_of P phase states (v ∷ []))

  pub awake-few : (first v end : ℕ) → first ≤ v → v ≤ end → length (awake_from first v) ≤ length (awake_from first end)
  awake-few first v end from to =
      let parts : end - first ≡ (v - first) + (end - v) = omega (arith, from, to) in
      let split = ap (λ (n : ℕ). length (awake_of P phase states (range_with_len first n))) parts
      ∙ ap (λ (l : List ℕ). length (awake_of P phase states l)) (range-split first (v - first) (end - v))
      ∙ ap (λ (l : List ℕ). length l)
      (filter-append (λ u. P.wake phase (state_at states u)) (range_with_len first (v - first)) (range_with_len (first + (v - first)) (end - v)))
      ∙ length-append (awake_from first v) (awake_of P phase states (range_with_len (first + (v - first)) (end - v))) in
      fewer _ _ _ split
    where
      fewer : (all part rest : ℕ) → all ≡ part + rest → part ≤ all
      fewer all part rest is = omega (arith, is)

  pub awake-next : (first v end : ℕ) → first ≤ v → v < end
      → length (awake_from first v) + length (awake_of P phase states (v ∷ [])) ≤ length (awake_from first end)
  awake-next first v end from to =
      subst (λ (k : ℕ). k ≤ length (awake_from first end)) (length-push first v from) (awake-few first (v + 1) end (omega (arith, from)) (omega (arith, to)))

  pub awake-at_most : (first v : ℕ) → length (awake_from first v) ≤ v - first
  awake-at_most first v =
      subst (λ (k : ℕ). length (awake_from first v) ≤ k) (length-range_with_len first (v - first))
      (length-filter (λ u. P.wake phase (state_at states u)) (range_with_len first (v - first)))

  pub awake-block : (pmap : PartMap) (block first end : ℕ) → first ≡ block * block_size pmap → end ≡ min pmap.n (first + block_size pmap)
      → awake_from first end ≡ block_active P phase states pmap block
  unfolding block_vertices
  awake-block pmap block first end first_is end_is =
      let size = block_size pmap in
      let counted : end - first ≡ min size (pmap.n - block * size) = count pmap.n size (block * size) first end first_is end_is in
      ap (λ (n : ℕ). awake_of P phase states (range_with_len first n)) counted
      ∙ ap (λ (from : ℕ). awake_of P phase states (range_with_len from (min size (pmap.n - block * size)))) first_is
    where
      count : (n size place first end : ℕ) → first ≡ place → end ≡ min n (first + size) → end - first ≡ min size (n - place)
      count n size place first end first_is end_is = omega (arith, first_is, end_is)

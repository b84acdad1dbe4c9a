use Rattle.std.proofs.Common.{◌≡◌, ℕ, ◌-◌, ◌≤◌, List, [], ◌∷◌, length, get_or, refl, sym, subst, arith}
use Rattle.std.proofs.lemmas.List.{length-map}
use Rattle.std.proofs.lemmas.List.Elements.{All-same}
use Rattle.std.proofs.lemmas.List.FromFn.{length-range_with_len}
use Rattle.std.proofs.lemmas.List.Sums.{sum_by-cons}
use Rattle.std.specs.List.{range_with_len, sum_by}
use Rattle.fg_task.specs.Spending.{HasRoom}
use Rattle.fg_crew.specs.declared.slot.Slot.{Slot}
use Rattle.fg_crew.specs.OneRunEach.{spent_on_runs}
use Rattle.fg_crew.specs.Wave.{block_at, blocks_in, in_all}
use Rattle.fg_crew.proofs.tests.run_wave.Goals as goal

sum_of_ones : (xs : List ℕ) → sum_by (λ (_ : ℕ). 1) xs ≡ length xs
sum_of_ones [] = refl
sum_of_ones (x ∷ xs) = omega (arith, sum_by-cons (λ (_ : ℕ). 1) x xs, sum_of_ones xs)

sum_of_none : (xs : List ℕ) → sum_by (λ (_ : ℕ). 0) xs ≡ 0
sum_of_none [] = refl
sum_of_none (x ∷ xs) = omega (arith, sum_by-cons (λ (_ : ℕ). 0) x xs, sum_of_none xs)

-- who counted nothing has room for a hundred blocks
has_room : (list : List ℕ) (to : ℕ) → to ≤ 100 → HasRoom (spent_on_runs 0) (in_all (λ (_ : ℕ). 1) list 0 to) (in_all (λ (_ : ℕ). 0) list 0 to)
has_room list to few =
    let places = range_with_len 0 (to - 0) in
    let count : length (blocks_in list 0 to) ≡ to = omega (arith, length-map places (block_at list), length-range_with_len 0 (to - 0)) in
    record {
      for_runs = omega (arith, sum_of_ones (blocks_in list 0 to), count);
      for_entries = omega (arith, sum_of_none (blocks_in list 0 to));
    }

pub work_wave-answer-requires-clause-room : goal.work_wave-answer-requires-clause-room
work_wave-answer-requires-clause-room g c κs within k d below =
    let list = c.as_slice.result.now in
    let none : (get_or c.as_mut_slice.result.now k d).kept ≡ 0 =
    All-same (λ (slot : Slot ℕ ℕ). slot.kept ≡ 0) c.as_mut_slice.result.now c.in_ok-slots.slots.items c.as_mut_slice.ensures.value c.in_ok-slots.ensures.none k d below in
    subst (λ (runs : ℕ). HasRoom (spent_on_runs runs) (in_all (λ (_ : ℕ). 1) list 0 c.args.to) (in_all (λ (_ : ℕ). 0) list 0 c.args.to)) (sym none)
    (has_room list c.args.to c.requires.to)

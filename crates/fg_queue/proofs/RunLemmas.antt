-- A run, load by load.
use Rattle.std.proofs.Common.{◌≡◌, ◌∙◌, ◌++◌, ◌∷◌, [], ℕ, ◌+◌, ◌-◌, ◌<◌, ◌≤◌, zero, suc, Option, Some, None, List, length, get_or, take, cond, refl, sym, ap, arith, inl, inr}
use Rattle.std.specs.List.{find}
use Rattle.std.specs.Option.{option_or}
use Rattle.std.proofs.lemmas.Bool.{cases_Bool, eqb-true, eq-eqb, cond-true, cond-false}
use Rattle.std.proofs.lemmas.List.{take_more, append_assoc, append-nil}
use Rattle.std.proofs.lemmas.List.Folds.{find-append}
use Rattle.fg_queue.specs.LoadQueue.{LoadQueue}
use Rattle.fg_queue.specs.LoadRun.{IsRun, first_of}
use Rattle.fg_queue.specs.QueueStep.{is_of, led_by, run_from, run_of, rest_after, after_run}
use Rattle.fg_queue.specs.declared.load.Load.{Load}

-- ---- the oldest load of a local page

-- what is found once one more load was looked at
pub find_more : (local : ℕ) (loads : List Load) (i : ℕ) (d : Load) → i < length loads →
    find (is_of local) (take (i + 1) loads) ≡
    option_or (find (is_of local) (take i loads)) (cond (is_of local (get_or loads i d)) (Some (get_or loads i d)) None)
find_more local loads i d within = rw (take_more loads i d within) (find-append (is_of local) (take i loads) (get_or loads i d ∷ []))

-- what is found is of the local page
pub find_is_of : (local : ℕ) (loads : List Load) (load : Load) → find (is_of local) loads ≡ Some load → load.local ≡ local
find_is_of local [] load e = absurd (let no_way : ⊥ = cc in no_way)
find_is_of local (x ∷ loads) load e =
    elim (cases_Bool (is_of local x)) [
      | inl is ↦
          let same : x ≡ load = (let s : Some x ≡ Some load = sym (cond-true (is_of local x) (Some x) (find (is_of local) loads) is) ∙ e in cc) in
          rw (← same) (eqb-true x.local local is)
      | inr other ↦ find_is_of local loads load (sym (cond-false (is_of local x) (Some x) (find (is_of local) loads) other) ∙ e)
    ]

-- ---- the run

pub run_from-none : (room local : ℕ) (loads : List Load) → find (is_of local) loads ≡ None → run_from room local loads ≡ []
unfolding run_from
run_from-none zero local loads e = refl
run_from-none (suc room) local loads e = rw e refl

pub run_from-some : (room local : ℕ) (loads : List Load) (load : Load) → find (is_of local) loads ≡ Some load →
    run_from (suc room) local loads ≡ load ∷ run_from room (local + 1) loads
unfolding run_from
run_from-some room local loads load e = rw e refl

pub run_from-zero : (local : ℕ) (loads : List Load) → run_from 0 local loads ≡ []
unfolding run_from
run_from-zero local loads = refl

-- a step of the loop that collects the run
pub collect_more : (all place first : ℕ) (loads run whole : List Load) (load : Load) → place < all → find (is_of (first + place)) loads ≡ Some load →
    run ++ run_from (all - place) (first + place) loads ≡ whole →
    (run ++ load ∷ []) ++ run_from (all - (place + 1)) (first + (place + 1)) loads ≡ whole
collect_more all place first loads run whole load within found so_far =
    let left : all - place ≡ suc (all - (place + 1)) = omega arith in
    let on : first + (place + 1) ≡ (first + place) + 1 = omega arith in
    let step : run_from (all - place) (first + place) loads ≡ load ∷ run_from (all - (place + 1)) (first + (place + 1)) loads =
    rw (left, on) (run_from-some (all - (place + 1)) (first + place) loads load found) in
    append_assoc run (load ∷ []) _ ∙ rw (← step) so_far

pub collect_ends : (room local : ℕ) (loads run whole : List Load) → find (is_of local) loads ≡ None → run ++ run_from room local loads ≡ whole → run ≡ whole
collect_ends room local loads run whole none so_far = sym (append-nil run) ∙ (rw (run_from-none room local loads none) at so_far)

-- the loads of a run are of this local page, of the next one, and so on
abbrev pub Climbs : ℕ → List Load → Type 0
Climbs local [] = Unit {0}
Climbs local (load ∷ run) = (load.local ≡ local) × Climbs (local + 1) run

led_by-climbs : (local : ℕ) (found : Option Load) (run : List Load) → ((load : Load) → found ≡ Some load → load.local ≡ local) → Climbs (local + 1) run → Climbs local (led_by found run)
led_by-climbs local None run is climbs = tt
led_by-climbs local (Some load) run is climbs = (is load refl, climbs)

pub run_from-climbs : (room local : ℕ) (loads : List Load) → Climbs local (run_from room local loads)
unfolding run_from
run_from-climbs zero local loads = tt
run_from-climbs (suc room) local loads =
    led_by-climbs local (find (is_of local) loads) (run_from room (local + 1) loads) (λ load e. find_is_of local loads load e) (run_from-climbs room (local + 1) loads)

length-led_by : (found : Option Load) (run : List Load) → length (led_by found run) ≤ length run + 1
length-led_by None run = omega arith
length-led_by (Some load) run = omega arith

pub length-run_from : (room local : ℕ) (loads : List Load) → length (run_from room local loads) ≤ room
unfolding run_from
length-run_from zero local loads = omega arith
length-run_from (suc room) local loads =
    omega (arith, length-led_by (find (is_of local) loads) (run_from room (local + 1) loads), length-run_from room (local + 1) loads)

pub climbs-at : (local : ℕ) (run : List Load) (k : ℕ) (d : Load) → Climbs local run → k < length run → (get_or run k d).local ≡ local + k
climbs-at local [] k d climbs h = absurd (omega arith)
climbs-at local (load ∷ run) zero d climbs h = rw climbs.0 (omega arith)
climbs-at local (load ∷ run) (suc k) d climbs h = let rest = climbs-at (local + 1) run k d climbs.1 (omega arith) in omega arith

-- ---- the run of a queue that isn't empty

find_oldest : (oldest : Load) (loads : List Load) → find (is_of oldest.local) (oldest ∷ loads) ≡ Some oldest
find_oldest oldest loads = cond-true _ _ _ (eq-eqb oldest.local oldest.local refl)

-- it begins with the oldest load
pub run_of-oldest : (oldest : Load) (loads : List Load) → run_of (oldest ∷ loads) ≡ oldest ∷ run_from 31 (oldest.local + 1) (oldest ∷ loads)
run_of-oldest oldest loads = run_from-some 31 oldest.local (oldest ∷ loads) oldest (find_oldest oldest loads)

pub run_of-is_run : (queue : LoadQueue) → 0 < length queue.loads → IsRun (record { loads = run_of queue.loads; queue = queue })
run_of-is_run queue some = is_run queue queue.loads refl some
  where
    is_run : (queue : LoadQueue) (loads : List Load) → queue.loads ≡ loads → 0 < length loads → IsRun (record { loads = run_of queue.loads; queue = queue })
    is_run queue [] e some = absurd (omega arith)
    is_run queue (oldest ∷ loads) e some =
        let run = run_from 32 oldest.local (oldest ∷ loads) in
        let first : first_of run ≡ oldest.local = ap first_of (run_of-oldest oldest loads) in
        record {
          taken = refl;
          some_load = rw (e, run_of-oldest oldest loads) (omega arith);
          at_most_32 = rw e (length-run_from 32 oldest.local (oldest ∷ loads));
          consecutive = rw e (λ k d h. rw first (climbs-at oldest.local run k d (run_from-climbs 32 oldest.local (oldest ∷ loads)) h));
        }

pub run_of-at : (loads : List Load) (oldest : Load) → 0 < length loads → oldest ≡ get_or loads 0 oldest → run_from 32 oldest.local loads ≡ run_of loads
run_of-at [] oldest some at = absurd (omega arith)
run_of-at (x ∷ loads) oldest some at = ap (λ (l : Load). run_from 32 l.local (x ∷ loads)) at

-- what was taken from the queue's loads is its run, and what is left is the queue after it
pub run_taken : (depth : ℕ) (loads : List Load) (queue : LoadQueue) (oldest : Load) → record { depth = depth; loads = loads } ≡ queue →
    0 < length loads → oldest ≡ get_or loads 0 oldest → run_from 32 oldest.local loads ≡ run_of queue.loads
run_taken depth loads queue oldest view some at = run_of-at loads oldest some at ∙ ap (λ (q : LoadQueue). run_of q.loads) view

pub rest_left : (depth : ℕ) (loads rest : List Load) (queue : LoadQueue) (oldest : Load) → record { depth = depth; loads = loads } ≡ queue →
    0 < length loads → oldest ≡ get_or loads 0 oldest → rest ≡ rest_after (run_from 32 oldest.local loads) loads →
    record { depth = depth; loads = rest } ≡ after_run queue
rest_left depth loads rest queue oldest view some at is =
    ap (λ (l : List Load). record { depth = depth; loads = l }) (is ∙ ap (λ run. rest_after run loads) (run_of-at loads oldest some at)) ∙ ap after_run view

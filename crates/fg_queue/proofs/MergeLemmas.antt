-- A step of the merging: the run from one place of the sorted asks to another joins the runs before it.
use Rattle.std.proofs.Common.{◌≡◌, ◌∙◌, ◌++◌, ◌∷◌, [], ℕ, ◌+◌, ◌-◌, ◌<◌, ◌≤◌, All, List, length, get_or, take, drop, sym, ap, arith, inl, inr}
use Rattle.std.specs.List.{AllAdjacentBelow, flat_map, slice_range}
use Rattle.std.proofs.lemmas.Bool.{cases_lt}
use Rattle.std.proofs.lemmas.List.{flat_map_more, get_or_append_left, get_or_push, get_or_default, length_push, take-append-drop, take-take, drop-take}
use Rattle.std.proofs.lemmas.List.Edits.{length-between, get_or-between}
use Rattle.std.proofs.lemmas.List.Elements.{All-push}
use Rattle.std.proofs.lemmas.List.Sorted.{IsNonDecreasingBy-from_sort, All-permutation}
use Rattle.fg_queue.specs.Merge.{IsApart, IsByPage, IsPageRun, no_ask}
use Rattle.fg_queue.specs.declared.asks.PageAsk.{PageAsk}
use Rattle.fg_queue.specs.declared.merge.PageRun.{PageRun}

-- the pages rise
pub pages_rise : (asks sorted : List PageAsk) → IsByPage asks sorted → (i j : ℕ) → i ≤ j → j < length sorted →
    (get_or sorted i no_ask).page ≤ (get_or sorted j no_ask).page
pages_rise asks sorted is i j upto within = IsNonDecreasingBy-from_sort (λ (ask : PageAsk). ask.page) sorted is.by_page i j no_ask upto within

-- a fact of every ask's page holds of the sorted asks too
pub pages_below : (asks sorted : List PageAsk) (limit : ℕ) → IsByPage asks sorted → All (λ (ask : PageAsk). ask.page < limit) asks → All (λ (ask : PageAsk). ask.page < limit) sorted
pages_below asks sorted limit is below = All-permutation (λ (ask : PageAsk). ask.page < limit) asks sorted is.each_once below

-- the asks from `start` up to `stop` are a run
pub record CutsRun (sorted : List PageAsk) (start stop : ℕ) (run : PageRun) : Type 0 where
  pub more : start < stop
  pub within : stop ≤ length sorted
  pub jobs : run.jobs ≡ slice_range sorted start stop
  pub first : run.first ≡ (get_or sorted start no_ask).page
  pub last : run.first + run.count ≡ (get_or sorted (stop - 1) no_ask).page + 1
  pub steps : (k : ℕ) → start ≤ k → k + 1 < stop → (get_or sorted (k + 1) no_ask).page ≤ (get_or sorted k no_ask).page + 1
  pub gap : stop < length sorted → (get_or sorted (stop - 1) no_ask).page + 1 < (get_or sorted stop no_ask).page

module _ (asks sorted : List PageAsk) (is : IsByPage asks sorted) (start stop : ℕ) (run : PageRun) (cuts : CutsRun sorted start stop run) where
  job_at : (k : ℕ) (d : PageAsk) → k < stop - start → get_or run.jobs k d ≡ get_or sorted (start + k) no_ask
  job_at k d h =
      rw cuts.jobs (get_or-between sorted start stop k d (omega (arith, cuts.more)))
      ∙ get_or_default sorted (start + k) d no_ask (omega (arith, cuts.more, cuts.within))

  jobs_count : length run.jobs ≡ stop - start
  jobs_count = rw cuts.jobs (length-between sorted start stop cuts.within)

  pub cut_is_run : IsPageRun run
  cut_is_run = record {
    some = omega (arith, jobs_count, cuts.more);
    starts = ap (λ (ask : PageAsk). ask.page) (job_at 0 no_ask (omega (arith, cuts.more)) ∙ ap (λ i. get_or sorted i no_ask) (let e : start + 0 ≡ start = omega arith in e)) ∙ sym cuts.first;
    ends =
        let at : length run.jobs - 1 < stop - start = omega (arith, jobs_count, cuts.more) in
        let place : start + (length run.jobs - 1) ≡ stop - 1 = omega (arith, jobs_count, cuts.more) in
        ap (λ (ask : PageAsk). ask.page + 1) (job_at (length run.jobs - 1) no_ask at ∙ ap (λ i. get_or sorted i no_ask) place) ∙ sym cuts.last;
    steps = λ k d h.
        let here : k < stop - start = omega (arith, h, jobs_count) in
        let next : k + 1 < stop - start = omega (arith, h, jobs_count) in
        let place : start + (k + 1) ≡ (start + k) + 1 = omega arith in
        rw (job_at k d here, job_at (k + 1) d next, place) (
          pages_rise asks sorted is (start + k) ((start + k) + 1) (omega arith) (omega (arith, next, cuts.within)),
          cuts.steps (start + k) (omega arith) (omega (arith, next)),
        );
  }

  pub cut_joins : (runs : List PageRun) → flat_map (λ (r : PageRun). r.jobs) runs ≡ take start sorted →
      flat_map (λ (r : PageRun). r.jobs) (runs ++ run ∷ []) ≡ take stop sorted
  cut_joins runs so_far =
      let all : start + (stop - start) ≡ stop = omega (arith, cuts.more) in
      let rest : drop start (take stop sorted) ≡ slice_range sorted start stop = rw all at (drop-take start (stop - start) sorted) in
      let front : take start (take stop sorted) ≡ take start sorted = take-take start stop sorted (omega (arith, cuts.more)) in
      sym (flat_map_more (λ (r : PageRun). r.jobs) [] runs run)
      ∙ ap (λ asks. asks ++ run.jobs) (so_far ∙ sym front)
      ∙ ap (λ asks. take start (take stop sorted) ++ asks) (cuts.jobs ∙ sym rest)
      ∙ take-append-drop start (take stop sorted)

  pub cut_maximal : (runs : List PageRun) → AllAdjacentBelow IsApart runs (length runs) →
      All (λ (r : PageRun). r.first + r.count < (get_or sorted start no_ask).page) runs → AllAdjacentBelow IsApart (runs ++ run ∷ []) (length (runs ++ run ∷ []))
  cut_maximal runs maximal behind = λ k d h.
      elim (cases_lt (k + 1) (length runs)) [
        | inl old ↦ rw (get_or_append_left runs (run ∷ []) d k (omega (arith, old)), get_or_append_left runs (run ∷ []) d (k + 1) old) (maximal k d old)
        | inr new ↦
            let last : length runs ≡ k + 1 = omega (arith, h, new, length_push runs run) in
            rw (get_or_append_left runs (run ∷ []) d k (omega (arith, last)), get_or_push runs run d (k + 1) last, cuts.first) (behind k d (omega (arith, last)))
      ]

  pub cut_behind : (runs : List PageRun) → All (λ (r : PageRun). r.first + r.count < (get_or sorted start no_ask).page) runs → stop < length sorted →
      All (λ (r : PageRun). r.first + r.count < (get_or sorted stop no_ask).page) (runs ++ run ∷ [])
  cut_behind runs behind more =
      let rise = pages_rise asks sorted is start stop (omega (arith, cuts.more)) more in
      let gap = cuts.gap more in
      All-push (λ (r : PageRun). r.first + r.count < (get_or sorted stop no_ask).page) runs run
      (λ k d h. let old = behind k d h in omega (arith, old, rise))
      (omega (arith, cuts.last, gap))

-- Jobs in groups: what a page's jobs are, and what the groups become.
use Rattle.std.proofs.Common.{◌≡◌, ◌≢◌, ℕ, zero, suc, ◌+◌, ◌-◌, ◌<◌, ◌≤◌, ◌==◌, min, ltb, Bool, true, false, List, [], ◌∷◌, ◌++◌, length, map, take, drop, set, get_or, refl, subst, sym, ap, ◌∙◌, inl, inr, arith, append-nil, get_or-set_same, get_or-set_other, length-set, length-take-le, get_or-take, get_or-drop, take_all, eq-eqb}
use Rattle.std.specs.Prelude.{All, filter, if◌then◌else◌}
use Rattle.std.specs.List.{slice_range}
use Rattle.std.specs.List.Sorted.{IsPartitionedBy, IsPartitionPoint}
use Rattle.std.proofs.lemmas.Bool.{cases_eq, cases_lt, lt-ltb, ltb-false, ltb-true, ne_eqb, not_from_false, not_from_true}
use Rattle.std.proofs.lemmas.Grind.{flat_map-append}
use Rattle.std.proofs.lemmas.List.{append_assoc, drop-append-le, drop_all, drop_more, get_or_default, get_or-append_right, length-append, length-drop, length-map, map-append, set_split, take-append-drop, take-append-le, take_more}
use Rattle.std.proofs.lemmas.List.Edits.{map_over_more}
use Rattle.std.proofs.lemmas.List.Elements.{All-append, All-cons, All-from_get_or, All-get_or, All-head, All-map, All-nil, All-tail, All-take, All-weaker, filter-append}
use Rattle.fg_task.specs.declared.group.Group.{Group}
use Rattle.fg_task.specs.declared.group.Places.{Places}
use Rattle.fg_task.specs.declared.job.Job.{Job}
use Rattle.fg_task.specs.Groups.{AreGroups, AreOutside, Ascends, EndsAt, IsBehind, IsGroup, emptied, group_at, jobs_in, page_at, waiting, waiting_on, with_last_to}
use Rattle.fg_task.specs.Jobs.{is_elsewhere, is_on}

-- a filter that all or none pass
filter-all : {X : Type 0} (p : X → Bool) (xs : List X) → All (λ x. p x ≡ true) xs → filter p xs ≡ xs
filter-all p [] all = refl
filter-all {X} p (x ∷ xs) all =
    rw (All-head (λ x. p x ≡ true) x xs all) (ap (λ (rest : List X). x ∷ rest) (filter-all p xs (All-tail (λ x. p x ≡ true) x xs all)))

filter-none : {X : Type 0} (p : X → Bool) (xs : List X) → All (λ x. p x ≡ false) xs → filter p xs ≡ []
filter-none p [] all = refl
filter-none p (x ∷ xs) all = rw (All-head (λ x. p x ≡ false) x xs all) (filter-none p xs (All-tail (λ x. p x ≡ false) x xs all))

pub none-between : {X : Type 0} (at : ℕ) (xs : List X) → slice_range xs at at ≡ []
none-between {X} at xs = ap (λ (k : ℕ). take k (drop at xs)) (let none : at - at ≡ 0 = omega arith in none)

-- the jobs of one group are all on a page, or none is
module _ (page : ℕ) (jobs : List Job) (group : Group) (is : IsGroup jobs group) where
  on-page : group.page ≡ page → All (λ job. is_on page job ≡ true) (jobs_in jobs group)
  on-page same =
      All-weaker (λ (job : Job). job.segment.page ≡ group.page) (λ job. is_on page job ≡ true) (λ job here. eq-eqb job.segment.page page (here ∙ same)) (jobs_in jobs group) is.on_page

  on-other : group.page ≢ page → All (λ job. is_on page job ≡ false) (jobs_in jobs group)
  on-other other =
      All-weaker (λ (job : Job). job.segment.page ≡ group.page) (λ job. is_on page job ≡ false)
      (λ job here. ne_eqb job.segment.page page (λ same. other (sym here ∙ same))) (jobs_in jobs group) is.on_page

-- a group on the page is emptied, and any other stays
emptied-here : (page : ℕ) (group : Group) → group.page ≡ page → emptied page group ≡ record { page = group.page; from = group.from; to = group.from }
emptied-here page group same = rw (eq-eqb group.page page same) refl

emptied-other : (page : ℕ) (group : Group) → group.page ≢ page → emptied page group ≡ group
emptied-other page group other = rw (ne_eqb group.page page other) refl

abbrev piece : ℕ → List Job → Group → List Job
piece page jobs group = if group.page == page then jobs_in jobs group else []

piece-here : (page : ℕ) (jobs : List Job) (group : Group) → group.page ≡ page → piece page jobs group ≡ jobs_in jobs group
piece-here page jobs group same = rw (eq-eqb group.page page same) refl

piece-other : (page : ℕ) (jobs : List Job) (group : Group) → group.page ≢ page → piece page jobs group ≡ []
piece-other page jobs group other = rw (ne_eqb group.page page other) refl

-- the jobs of a page are those of its groups
filter-group : (page : ℕ) (jobs : List Job) (group : Group) → IsGroup jobs group → filter (is_on page) (jobs_in jobs group) ≡ piece page jobs group
filter-group page jobs group is =
    elim (cases_eq group.page page) [
      | inl same ↦ filter-all (is_on page) (jobs_in jobs group) (on-page page jobs group is same) ∙ sym (piece-here page jobs group same)
      | inr other ↦ filter-none (is_on page) (jobs_in jobs group) (on-other page jobs group is other) ∙ sym (piece-other page jobs group other)
    ]

left-group : (page : ℕ) (jobs : List Job) (group : Group) → IsGroup jobs group → filter (is_elsewhere page) (jobs_in jobs group) ≡ jobs_in jobs (emptied page group)
left-group page jobs group is =
    elim (cases_eq group.page page) [
      | inl same ↦
          filter-none (is_elsewhere page) (jobs_in jobs group)
          (All-weaker (λ job. is_on page job ≡ true) (λ job. is_elsewhere page job ≡ false) (λ job here. not_from_true (is_on page job) here) (jobs_in jobs group) (on-page page jobs group is same))
          ∙ sym (none-between group.from jobs)
          ∙ ap (jobs_in jobs) (sym (emptied-here page group same))
      | inr other ↦
          filter-all (is_elsewhere page) (jobs_in jobs group)
          (All-weaker (λ job. is_on page job ≡ false) (λ job. is_elsewhere page job ≡ true) (λ job away. not_from_false (is_on page job) away) (jobs_in jobs group) (on-other page jobs group is other))
          ∙ ap (jobs_in jobs) (sym (emptied-other page group other))
    ]

pub filter-on : (page : ℕ) (jobs : List Job) (groups : List Group) → All (IsGroup jobs) groups → filter (is_on page) (waiting jobs groups) ≡ waiting_on page jobs groups
filter-on page jobs [] each = refl
filter-on page jobs (group ∷ groups) each =
    filter-append (is_on page) (jobs_in jobs group) (waiting jobs groups)
    ∙ ap (λ (xs : List Job). xs ++ filter (is_on page) (waiting jobs groups)) (filter-group page jobs group (All-head (IsGroup jobs) group groups each))
    ∙ ap (λ (xs : List Job). piece page jobs group ++ xs) (filter-on page jobs groups (All-tail (IsGroup jobs) group groups each))

pub filter-left : (page : ℕ) (jobs : List Job) (groups : List Group) → All (IsGroup jobs) groups → filter (is_elsewhere page) (waiting jobs groups) ≡ waiting jobs (map (emptied page) groups)
filter-left page jobs [] each = refl
filter-left page jobs (group ∷ groups) each =
    filter-append (is_elsewhere page) (jobs_in jobs group) (waiting jobs groups)
    ∙ ap (λ (xs : List Job). xs ++ filter (is_elsewhere page) (waiting jobs groups)) (left-group page jobs group (All-head (IsGroup jobs) group groups each))
    ∙ ap (λ (xs : List Job). jobs_in jobs (emptied page group) ++ xs) (filter-left page jobs groups (All-tail (IsGroup jobs) group groups each))

-- emptied groups are groups in the same order
page-emptied : (page : ℕ) (group : Group) → (emptied page group).page ≡ group.page
page-emptied page group =
    elim (cases_eq group.page page) [
      | inl same ↦ ap (λ (g : Group). g.page) (emptied-here page group same)
      | inr other ↦ ap (λ (g : Group). g.page) (emptied-other page group other)
    ]

is_group-emptied : (page : ℕ) (jobs : List Job) (group : Group) → IsGroup jobs group → IsGroup jobs (emptied page group)
is_group-emptied page jobs group is =
    elim (cases_eq group.page page) [
      | inl same ↦ subst (IsGroup jobs) (sym (emptied-here page group same)) (record {
        order = omega arith;
        within = omega (arith, is.order, is.within);
        on_page = subst (All (λ (job : Job). job.segment.page ≡ group.page)) (sym (none-between group.from jobs)) (All-nil (λ (job : Job). job.segment.page ≡ group.page));
      })
      | inr other ↦ subst (IsGroup jobs) (sym (emptied-other page group other)) is
    ]

page_at-emptied : (page : ℕ) (groups : List Group) (k : ℕ) → page_at (map (emptied page) groups) k ≡ page_at groups k
page_at-emptied page [] k = refl
page_at-emptied page (group ∷ groups) zero = page-emptied page group
page_at-emptied page (group ∷ groups) (suc k) = page_at-emptied page groups k

pub are_groups-emptied : (page : ℕ) (jobs : List Job) (groups : List Group) (ascending : Bool) → AreGroups jobs groups ascending → AreGroups jobs (map (emptied page) groups) ascending
are_groups-emptied page jobs groups ascending are = record {
  each = All-map (IsGroup jobs) (emptied page) groups (All-weaker (IsGroup jobs) (λ group. IsGroup jobs (emptied page group)) (is_group-emptied page jobs) groups are.each);
  ascends = λ said i j before below.
      let same = length-map groups (emptied page) in
      let up = are.ascends said i j before (omega (arith, below, same)) in
      let one = page_at-emptied page groups i in
      let other = page_at-emptied page groups j in
      omega (arith, up, one, other);
}

-- groups of which none is on the page
module _ (page : ℕ) (jobs : List Job) where
  waiting_on-away : (groups : List Group) → All (λ (group : Group). group.page ≢ page) groups → waiting_on page jobs groups ≡ []
  waiting_on-away [] away = refl
  waiting_on-away (group ∷ groups) away =
      ap (λ (xs : List Job). xs ++ waiting_on page jobs groups) (piece-other page jobs group (All-head (λ (group : Group). group.page ≢ page) group groups away))
      ∙ waiting_on-away groups (All-tail (λ (group : Group). group.page ≢ page) group groups away)

  emptied-away : (groups : List Group) → All (λ (group : Group). group.page ≢ page) groups → map (emptied page) groups ≡ groups
  emptied-away [] away = refl
  emptied-away (group ∷ groups) away =
      ap (λ (g : Group). g ∷ map (emptied page) groups) (emptied-other page group (All-head (λ (group : Group). group.page ≢ page) group groups away))
      ∙ ap (λ (gs : List Group). group ∷ gs) (emptied-away groups (All-tail (λ (group : Group). group.page ≢ page) group groups away))

-- going over the groups at some places, outside of which none is on the page
module _ (page : ℕ) (jobs : List Job) (groups : List Group) (places : Places) (outside : AreOutside page places groups) where
  first-away : places.from ≤ length groups → All (λ (group : Group). group.page ≢ page) (take places.from groups)
  first-away within =
      All-from_get_or (λ (group : Group). group.page ≢ page) (take places.from groups) (record { page = 0; from = 0; to = 0 })
      (λ k below.
      let count : length (take places.from groups) ≡ places.from = length-take-le places.from groups within in
      let first : k < places.from = omega (arith, below, count) in
      rw (get_or-take places.from groups k (record { page = 0; from = 0; to = 0 }) first) (outside k (omega (arith, first, within)) (inl first)))

  last-away : All (λ (group : Group). group.page ≢ page) (drop places.to groups)
  last-away =
      All-from_get_or (λ (group : Group). group.page ≢ page) (drop places.to groups) (record { page = 0; from = 0; to = 0 })
      (λ k below.
      let count = length-drop places.to groups in
      rw (get_or-drop places.to groups k (record { page = 0; from = 0; to = 0 })) (outside (places.to + k) (omega (arith, below, count)) (inr (omega arith))))

  pub begins-waiting : places.from ≤ length groups → waiting_on page jobs (take places.from groups) ≡ []
  begins-waiting within = waiting_on-away page jobs (take places.from groups) (first-away within)

  pub begins-emptied : places.from ≤ length groups → groups ≡ map (emptied page) (take places.from groups) ++ drop places.from groups
  begins-emptied within =
      sym (take-append-drop places.from groups)
      ∙ ap (λ (gs : List Group). gs ++ drop places.from groups) (sym (emptied-away page jobs (take places.from groups) (first-away within)))

  pub ends-waiting : waiting_on page jobs (take places.to groups) ≡ waiting_on page jobs groups
  ends-waiting =
      sym (append-nil (waiting_on page jobs (take places.to groups)))
      ∙ ap (λ (xs : List Job). waiting_on page jobs (take places.to groups) ++ xs) (sym (waiting_on-away page jobs (drop places.to groups) last-away))
      ∙ sym (flat_map-append (piece page jobs) (take places.to groups) (drop places.to groups))
      ∙ ap (waiting_on page jobs) (take-append-drop places.to groups)

  pub ends-emptied : map (emptied page) (take places.to groups) ++ drop places.to groups ≡ map (emptied page) groups
  ends-emptied =
      ap (λ (gs : List Group). map (emptied page) (take places.to groups) ++ gs) (sym (emptied-away page jobs (drop places.to groups) last-away))
      ∙ sym (map-append (emptied page) (take places.to groups) (drop places.to groups))
      ∙ ap (map (emptied page)) (take-append-drop places.to groups)

-- one group more
module _ (page : ℕ) (jobs : List Job) (groups : List Group) (at : ℕ) (group : Group) (below : at < length groups) (is : group_at groups at ≡ group) where
  pub waiting_on-more : waiting_on page jobs (take (at + 1) groups) ≡ waiting_on page jobs (take at groups) ++ piece page jobs group
  waiting_on-more =
      ap (waiting_on page jobs) (take_more groups at (record { page = 0; from = 0; to = 0 }) below ∙ ap (λ (g : Group). take at groups ++ g ∷ []) is)
      ∙ flat_map-append (piece page jobs) (take at groups) (group ∷ [])
      ∙ ap (λ (xs : List Job). waiting_on page jobs (take at groups) ++ xs) (append-nil (piece page jobs group))

  pub waiting_on-parts : waiting_on page jobs groups ≡ waiting_on page jobs (take at groups) ++ (piece page jobs group ++ waiting_on page jobs (drop (at + 1) groups))
  waiting_on-parts =
      ap (waiting_on page jobs) (sym (take-append-drop at groups) ∙ ap (λ (gs : List Group). take at groups ++ gs) (drop_more groups at (record { page = 0; from = 0; to = 0 }) below
      ∙ ap (λ (g : Group). g ∷ drop (at + 1) groups) is))
      ∙ flat_map-append (piece page jobs) (take at groups) (group ∷ drop (at + 1) groups)

  -- where it is on another page, it stays
  pub emptied-skip : group.page ≢ page → map (emptied page) (take at groups) ++ drop at groups ≡ map (emptied page) (take (at + 1) groups) ++ drop (at + 1) groups
  emptied-skip other =
      ap (λ (gs : List Group). map (emptied page) (take at groups) ++ gs) (drop_more groups at (record { page = 0; from = 0; to = 0 }) below
      ∙ ap (λ (g : Group). g ∷ drop (at + 1) groups) (is ∙ sym (emptied-other page group other)))
      ∙ sym (append_assoc (map (emptied page) (take at groups)) (emptied page group ∷ []) (drop (at + 1) groups))
      ∙ ap (λ (gs : List Group). gs ++ drop (at + 1) groups) (sym (map-append (emptied page) (take at groups) (group ∷ []))
      ∙ ap (map (emptied page)) (sym (take_more groups at (record { page = 0; from = 0; to = 0 }) below ∙ ap (λ (g : Group). take at groups ++ g ∷ []) is)))

-- the jobs that a page's next group adds, and the groups without them
pub waiting_on-here : (page : ℕ) (jobs : List Job) (groups : List Group) (at : ℕ) (group : Group) → at < length groups → group_at groups at ≡ group → group.page ≡ page
    → waiting_on page jobs (take (at + 1) groups) ≡ waiting_on page jobs (take at groups) ++ jobs_in jobs group
waiting_on-here page jobs groups at group below is same =
    waiting_on-more page jobs groups at group below is ∙ ap (λ (xs : List Job). waiting_on page jobs (take at groups) ++ xs) (piece-here page jobs group same)

pub waiting_on-other : (page : ℕ) (jobs : List Job) (groups : List Group) (at : ℕ) (group : Group) → at < length groups → group_at groups at ≡ group → group.page ≢ page
    → waiting_on page jobs (take (at + 1) groups) ≡ waiting_on page jobs (take at groups)
waiting_on-other page jobs groups at group below is other =
    waiting_on-more page jobs groups at group below is ∙ ap (λ (xs : List Job). waiting_on page jobs (take at groups) ++ xs) (piece-other page jobs group other)
    ∙ append-nil (waiting_on page jobs (take at groups))

pub waiting_on-split : (page : ℕ) (jobs : List Job) (groups : List Group) (at : ℕ) (group : Group) → at < length groups → group_at groups at ≡ group → group.page ≡ page
    → waiting_on page jobs groups ≡ waiting_on page jobs (take at groups) ++ (jobs_in jobs group ++ waiting_on page jobs (drop (at + 1) groups))
waiting_on-split page jobs groups at group below is same =
    waiting_on-parts page jobs groups at group below is
    ∙ ap (λ (xs : List Job). waiting_on page jobs (take at groups) ++ (xs ++ waiting_on page jobs (drop (at + 1) groups))) (piece-here page jobs group same)

pub emptied-step : (page : ℕ) (groups now : List Group) (at : ℕ) (group : Group) → at < length groups → now ≡ map (emptied page) (take at groups) ++ drop at groups
    → group ≡ get_or now at group → group.page ≡ page
    → set now at (record { page = group.page; from = group.from; to = group.from }) ≡ map (emptied page) (take (at + 1) groups) ++ drop (at + 1) groups
emptied-step page groups now at group below is read same =
    ap (set now at) (sym (emptied-here page group same)) ∙ map_over_more (emptied page) groups now at group below is read

-- a job is put behind the others
module _ (jobs : List Job) (job : Job) where
  abbrev more : List Job
  more = jobs ++ job ∷ []

  jobs_in-same : (group : Group) → IsGroup jobs group → jobs_in more group ≡ jobs_in jobs group
  jobs_in-same group is =
      ap (take (group.to - group.from)) (drop-append-le group.from jobs (job ∷ []) (omega (arith, is.order, is.within)))
      ∙ take-append-le (group.to - group.from) (drop group.from jobs) (job ∷ []) (let count = length-drop group.from jobs in omega (arith, count, is.order, is.within))

  is_group-same : (group : Group) → IsGroup jobs group → IsGroup more group
  is_group-same group is = record {
    order = is.order;
    within = let count = length-append jobs (job ∷ []) in omega (arith, count, is.within);
    on_page = subst (All (λ (job : Job). job.segment.page ≡ group.page)) (sym (jobs_in-same group is)) is.on_page;
  }

  each-same : (groups : List Group) → All (IsGroup jobs) groups → All (IsGroup more) groups
  each-same groups each = All-weaker (IsGroup jobs) (IsGroup more) is_group-same groups each

  waiting-same : (groups : List Group) → All (IsGroup jobs) groups → waiting more groups ≡ waiting jobs groups
  waiting-same [] each = refl
  waiting-same (group ∷ groups) each =
      ap (λ (xs : List Job). xs ++ waiting more groups) (jobs_in-same group (All-head (IsGroup jobs) group groups each))
      ∙ ap (λ (xs : List Job). jobs_in jobs group ++ xs) (waiting-same groups (All-tail (IsGroup jobs) group groups each))

  -- from a place on to the end
  jobs_in-longer : (from : ℕ) → from ≤ length jobs → slice_range more from (length jobs + 1) ≡ slice_range jobs from (length jobs) ++ job ∷ []
  jobs_in-longer from within =
      let count = length-drop from jobs in
      let both = length-append (drop from jobs) (job ∷ []) in
      ap (take (length jobs + 1 - from)) (drop-append-le from jobs (job ∷ []) within)
      ∙ take_all (length jobs + 1 - from) (drop from jobs ++ job ∷ []) (omega (arith, count, both, within))
      ∙ ap (λ (xs : List Job). xs ++ job ∷ []) (sym (take_all (length jobs - from) (drop from jobs) (omega (arith, count))))

  -- a group of its own
  abbrev own : Group
  own = record { page = job.segment.page; from = length jobs; to = length jobs + 1 }

  jobs_in-own : jobs_in more own ≡ job ∷ []
  jobs_in-own = jobs_in-longer (length jobs) (omega arith) ∙ ap (λ (xs : List Job). xs ++ job ∷ []) (none-between (length jobs) jobs)

  is_group-own : IsGroup more own
  is_group-own = record {
    order = omega arith;
    within = let count = length-append jobs (job ∷ []) in omega (arith, count);
    on_page = subst (All (λ (one : Job). one.segment.page ≡ job.segment.page)) (sym jobs_in-own)
        (All-cons (λ (one : Job). one.segment.page ≡ job.segment.page) job [] refl (All-nil (λ (one : Job). one.segment.page ≡ job.segment.page)));
  }

  pub waiting-pushed : (groups : List Group) → All (IsGroup jobs) groups → waiting more (groups ++ own ∷ []) ≡ waiting jobs groups ++ job ∷ []
  waiting-pushed groups each =
      flat_map-append (jobs_in more) groups (own ∷ [])
      ∙ ap (λ (xs : List Job). xs ++ (jobs_in more own ++ [])) (waiting-same groups each)
      ∙ ap (λ (xs : List Job). waiting jobs groups ++ (xs ++ [])) jobs_in-own

  pub are_groups-pushed : (groups : List Group) (ascending after : Bool) → AreGroups jobs groups ascending
      → (after ≡ true → (ascending ≡ true) × IsBehind job.segment.page groups) → AreGroups more (groups ++ own ∷ []) after
  are_groups-pushed groups ascending after are last = record {
    each = All-append (IsGroup more) groups (own ∷ []) (each-same groups are.each) (All-cons (IsGroup more) own [] is_group-own (All-nil (IsGroup more)));
    ascends = λ said i j before below.
        let tests = last said in
        let count = length-append groups (own ∷ []) in
        elim (cases_lt j (length groups)) [
          | inl inside ↦
              let up = are.ascends tests.0 i j before inside in
              rw (page_at-front groups own i (omega (arith, before, inside)), page_at-front groups own j inside) up
          | inr end ↦
              let here : j ≡ length groups = omega (arith, below, count, end) in
              let some : 0 < length groups = omega (arith, before, here) in
              let up = tests.1 some in
              rw (here, page_at-front groups own i (omega (arith, before, here)), page_at-end groups own) (
              elim (cases_lt i (length groups - 1)) [
                | inl less ↦ let low = are.ascends tests.0 i (length groups - 1) less (omega (arith, some)) in omega (arith, low, up)
                | inr not_less ↦ let same : i ≡ length groups - 1 = omega (arith, not_less, before, here) in rw same up
              ])
        ];
  }
    where
      page_at-front : (groups : List Group) (group : Group) (k : ℕ) → k < length groups → page_at (groups ++ group ∷ []) k ≡ page_at groups k
      page_at-front [] group k inside = absurd (omega (arith, inside))
      page_at-front (one ∷ groups) group zero inside = refl
      page_at-front (one ∷ groups) group (suc k) inside = page_at-front groups group k (omega (arith, inside))

      page_at-end : (groups : List Group) (group : Group) → page_at (groups ++ group ∷ []) (length groups) ≡ group.page
      page_at-end [] group = refl
      page_at-end (one ∷ groups) group = page_at-end groups group

  -- the last group is lengthened
  module _ (groups : List Group) (long : EndsAt job.segment.page (length jobs) groups) (each : All (IsGroup jobs) groups) where
    abbrev now : List Group
    now = with_last_to (length jobs + 1) groups

    abbrev last : Group
    last = group_at groups (length groups - 1)

    abbrev longer : Group
    longer = record { page = last.page; from = last.from; to = length jobs + 1 }

    abbrev first : List Group
    first = take (length groups - 1) groups

    last-is : IsGroup jobs last
    last-is = All-get_or (IsGroup jobs) groups (length groups - 1) (record { page = 0; from = 0; to = 0 }) (omega (arith, long.some)) each

    groups-are : groups ≡ first ++ last ∷ []
    groups-are =
        sym (take-append-drop (length groups - 1) groups)
        ∙ ap (λ (gs : List Group). first ++ gs) (drop_more groups (length groups - 1) (record { page = 0; from = 0; to = 0 }) (omega (arith, long.some))
        ∙ ap (λ (gs : List Group). last ∷ gs) (drop_all (length groups - 1 + 1) groups (omega (arith, long.some))))

    now-are : now ≡ first ++ longer ∷ []
    now-are =
        set_split groups (length groups - 1) longer (omega (arith, long.some))
        ∙ ap (λ (gs : List Group). first ++ longer ∷ gs) (drop_all (suc (length groups - 1)) groups (omega (arith, long.some)))

    longer-jobs : jobs_in more longer ≡ jobs_in jobs last ++ job ∷ []
    longer-jobs =
        jobs_in-longer last.from (omega (arith, last-is.order, long.ends))
        ∙ ap (λ (to : ℕ). slice_range jobs last.from to ++ job ∷ []) (sym long.ends)

    first-each : All (IsGroup jobs) first
    first-each = All-take (IsGroup jobs) (length groups - 1) groups each

    pub waiting-longer : waiting more now ≡ waiting jobs groups ++ job ∷ []
    waiting-longer =
        ap (waiting more) now-are
        ∙ flat_map-append (jobs_in more) first (longer ∷ [])
        ∙ ap (λ (xs : List Job). xs ++ (jobs_in more longer ++ [])) (waiting-same first first-each)
        ∙ ap (λ (xs : List Job). waiting jobs first ++ xs) (append-nil (jobs_in more longer) ∙ longer-jobs)
        ∙ sym (append_assoc (waiting jobs first) (jobs_in jobs last) (job ∷ []))
        ∙ ap (λ (xs : List Job). xs ++ job ∷ []) (
        ap (λ (xs : List Job). waiting jobs first ++ xs) (sym (append-nil (jobs_in jobs last)))
        ∙ sym (flat_map-append (jobs_in jobs) first (last ∷ []))
        ∙ ap (waiting jobs) (sym groups-are))

    longer-is : IsGroup more longer
    longer-is = record {
      order = omega (arith, last-is.order, long.ends);
      within = let count = length-append jobs (job ∷ []) in omega (arith, count);
      on_page = subst (All (λ (one : Job). one.segment.page ≡ last.page)) (sym longer-jobs)
          (All-append (λ (one : Job). one.segment.page ≡ last.page) (jobs_in jobs last) (job ∷ []) last-is.on_page
          (All-cons (λ (one : Job). one.segment.page ≡ last.page) job [] (sym long.on_page) (All-nil (λ (one : Job). one.segment.page ≡ last.page))));
    }

    page_at-longer : (k : ℕ) → page_at now k ≡ page_at groups k
    page_at-longer k =
        elim (cases_eq k (length groups - 1)) [
          | inl same ↦ rw same (ap (λ (g : Group). g.page) (get_or-set_same groups (length groups - 1) longer (record { page = 0; from = 0; to = 0 }) (omega (arith, long.some))))
          | inr other ↦ ap (λ (g : Group). g.page) (get_or-set_other groups (length groups - 1) k longer (record { page = 0; from = 0; to = 0 }) other)
        ]

    pub are_groups-longer : (ascending : Bool) → (ascending ≡ true → Ascends groups) → AreGroups more now ascending
    are_groups-longer ascending ascends = record {
      each = subst (All (IsGroup more)) (sym now-are)
          (All-append (IsGroup more) first (longer ∷ []) (each-same first first-each) (All-cons (IsGroup more) longer [] longer-is (All-nil (IsGroup more))));
      ascends = λ said i j before below.
          let count : length now ≡ length groups = length-set groups (length groups - 1) longer in
          let up = ascends said i j before (omega (arith, below, count)) in
          let one = page_at-longer i in
          let other = page_at-longer j in
          omega (arith, up, one, other);
    }

-- where groups ascend, at most one is on a page, and stands where a search by halving ends
pub searched-by : (page : ℕ) (groups : List Group) → Ascends groups → IsPartitionedBy (λ (group : Group). ltb group.page page) groups
searched-by page groups up i j d low below test =
    elim (cases_lt i j) [
      | inl under ↦
          let rise = up i j under below in
          let one : (get_or groups i d).page ≡ page_at groups i = ap (λ (g : Group). g.page) (get_or_default groups i d (record { page = 0; from = 0; to = 0 }) (omega (arith, under, below))) in
          let other : (get_or groups j d).page ≡ page_at groups j = ap (λ (g : Group). g.page) (get_or_default groups j d (record { page = 0; from = 0; to = 0 }) below) in
          let less : (get_or groups j d).page < page = ltb-true (get_or groups j d).page page test in
          lt-ltb (get_or groups i d).page page (omega (arith, rise, one, other, less))
      | inr over ↦ let same : i ≡ j = omega (arith, low, over) in rw same test
    ]

pub outside-found : (page : ℕ) (groups : List Group) (places : Places) → Ascends groups → places.from ≤ length groups
    → IsPartitionPoint (λ (group : Group). ltb group.page page ≡ true) (λ (group : Group). ltb group.page page ≡ false) groups places.from
    → places.to ≡ min (length groups) (places.from + 1) → AreOutside page places groups
outside-found page groups places up within point to k below (inl before) same =
    let less : page_at groups k < page = ltb-true (page_at groups k) page (point.0 k (record { page = 0; from = 0; to = 0 }) (omega arith) before) in
    absurd (omega (arith, less, same))
outside-found page groups places up within point to k below (inr behind) same =
    let one : places.from < k = omega (arith, to, behind, below) in
    let rise = up places.from k one below in
    let least : page ≤ page_at groups places.from = ltb-false (page_at groups places.from) page (point.1 places.from (record { page = 0; from = 0; to = 0 }) (omega arith) (omega (arith, one, below))) in
    absurd (omega (arith, rise, least, same))

-- what stands next was not yet emptied
pub read-next : (page : ℕ) (groups : List Group) (at : ℕ) (d : Group) → at < length groups → get_or (map (emptied page) (take at groups) ++ drop at groups) at d ≡ get_or groups at d
read-next page groups at d below =
    let count : length (map (emptied page) (take at groups)) ≡ at = length-map (take at groups) (emptied page) ∙ length-take-le at groups (omega (arith, below)) in
    let none : at + (at - at) ≡ at = omega arith in
    get_or-append_right (map (emptied page) (take at groups)) (drop at groups) at at d count (omega arith)
    ∙ get_or-drop at groups (at - at) d
    ∙ ap (λ (k : ℕ). get_or groups k d) none

-- The pages that jobs wait for.
use Rattle.std.proofs.Common.{◌≡◌, ℕ, ◌<◌, List, [], ◌∷◌, ◌++◌, length, map, subst, sym, ap, ◌∙◌, inl, inr, arith, ◌+◌, ◌-◌, ◌≢◌, take, drop, append-nil, length-take-le}
use Rattle.std.specs.Prelude.{All}
use Rattle.std.specs.List.{Contains, slice_range}
use Rattle.std.proofs.lemmas.Grind.{flat_map-append}
use Rattle.std.proofs.lemmas.List.{length-drop, map-append, take_more}
use Rattle.std.proofs.lemmas.List.Elements.{All-contains, All-get_or, All-head, All-map, Contains-append_cases, Contains-append_left, Contains-append_right, Contains-push, Contains-push_cases}
use Rattle.fg_task.specs.declared.group.Group.{Group}
use Rattle.fg_task.specs.declared.job.Job.{Job}
use Rattle.fg_task.specs.Book.{Tells, page_of_job}
use Rattle.fg_task.specs.Groups.{IsGroup, group_at, jobs_in, waiting}
use Rattle.fg_task.proofs.GroupLaws.{none-between}

-- no page is named by no job
none-contained : (page : ℕ) → Contains (map page_of_job []) page → ⊥
none-contained page (k, below, is) = absurd (omega (arith, below))

pub tells-none : (pages : List ℕ) → Tells [] pages pages
tells-none pages = record { kept = λ page there. there; all = λ page there. absurd (none-contained page there); own = λ page there. inl there }

-- more jobs, which all wait for one page
module _ (jobs more : List Job) (before told : List ℕ) (tells : Tells jobs before told) (page : ℕ) (on_page : All (λ (job : Job). job.segment.page ≡ page) more) where
  in_more : (one : ℕ) → Contains (map page_of_job more) one → one ≡ page
  in_more one there = All-contains (λ (p : ℕ). p ≡ page) (map page_of_job more) one (All-map (λ (p : ℕ). p ≡ page) page_of_job more on_page) there

  first_of : (xs : List Job) → 0 < length xs → All (λ (job : Job). job.segment.page ≡ page) xs → Contains (map page_of_job xs) page
  first_of [] some all = absurd (omega (arith, some))
  first_of (job ∷ jobs) some all = (0, omega arith, All-head (λ (job : Job). job.segment.page ≡ page) job jobs all)

  both : map page_of_job (jobs ++ more) ≡ map page_of_job jobs ++ map page_of_job more
  both = map-append page_of_job jobs more

  pub tells-more : 0 < length more → Tells (jobs ++ more) before (told ++ page ∷ [])
  tells-more some = record {
    kept = λ one there. Contains-append_left told (page ∷ []) one (tells.kept one there);
    all = λ one there.
        elim (Contains-append_cases (map page_of_job jobs) (map page_of_job more) one (rw both at there)) [
          | inl old ↦ Contains-append_left told (page ∷ []) one (tells.all one old)
          | inr new ↦ subst (Contains (told ++ page ∷ [])) (sym (in_more one new)) (Contains-push told page)
        ];
    own = λ one there.
        elim (Contains-push_cases told page one there) [
          | inl old ↦ elim (tells.own one old) [
            | inl first ↦ inl first
            | inr next ↦ inr (rw both (Contains-append_left (map page_of_job jobs) (map page_of_job more) one next))
          ]
          | inr same ↦ inr (rw both (Contains-append_right (map page_of_job jobs) (map page_of_job more) one (subst (Contains (map page_of_job more)) same (first_of more some on_page))))
        ];
  }

-- going over groups: a next one that is empty tells nothing, any other its page
module _ (jobs : List Job) (groups : List Group) (at : ℕ) (below : at < length groups) (before told : List ℕ)
    (tells : Tells (waiting jobs (take at groups)) before told) where
  abbrev next : Group
  next = group_at groups at

  waiting-next : waiting jobs (take (at + 1) groups) ≡ waiting jobs (take at groups) ++ jobs_in jobs next
  waiting-next =
      ap (waiting jobs) (take_more groups at (record { page = 0; from = 0; to = 0 }) below)
      ∙ flat_map-append (jobs_in jobs) (take at groups) (next ∷ [])
      ∙ ap (λ (xs : List Job). waiting jobs (take at groups) ++ xs) (append-nil (jobs_in jobs next))

  pub tells-empty : next.from ≡ next.to → Tells (waiting jobs (take (at + 1) groups)) before told
  tells-empty same =
      let none : jobs_in jobs next ≡ [] = ap (λ (to : ℕ). slice_range jobs next.from to) (sym same) ∙ none-between next.from jobs in
      subst (λ (all : List Job). Tells all before told)
      (sym (waiting-next ∙ ap (λ (xs : List Job). waiting jobs (take at groups) ++ xs) none ∙ append-nil (waiting jobs (take at groups)))) tells

  pub tells-next : All (IsGroup jobs) groups → next.from ≢ next.to → Tells (waiting jobs (take (at + 1) groups)) before (told ++ next.page ∷ [])
  tells-next each other =
      let is : IsGroup jobs next = All-get_or (IsGroup jobs) groups at (record { page = 0; from = 0; to = 0 }) below each in
      let rest = length-drop next.from jobs in
      let count = length-take-le (next.to - next.from) (drop next.from jobs) (omega (arith, rest, is.order, is.within)) in
      subst (λ (all : List Job). Tells all before (told ++ next.page ∷ [])) (sym waiting-next)
      (tells-more (waiting jobs (take at groups)) (jobs_in jobs next) before told tells next.page is.on_page (omega (arith, count, is.order, other)))

-- what two lists of jobs tell one after the other
pub tells-both : (outs ins : List Job) (first last : List ℕ) → Tells outs [] first → Tells ins first last → Tells (outs ++ ins) [] last
tells-both outs ins first last one other = record {
  kept = λ page there. other.kept page (one.kept page there);
  all = λ page there.
      elim (Contains-append_cases (map page_of_job outs) (map page_of_job ins) page (rw (map-append page_of_job outs ins) at there)) [
        | inl out ↦ other.kept page (one.all page out)
        | inr into ↦ other.all page into
      ];
  own = λ page there.
      elim (other.own page there) [
        | inl out ↦ elim (one.own page out) [
          | inl first ↦ inl first
          | inr next ↦ inr (rw (map-append page_of_job outs ins) (Contains-append_left (map page_of_job outs) (map page_of_job ins) page next))
        ]
        | inr into ↦ inr (rw (map-append page_of_job outs ins) (Contains-append_right (map page_of_job outs) (map page_of_job ins) page into))
      ];
}

pub only_own : (jobs : List Job) (told : List ℕ) (page : ℕ) → Tells jobs [] told → Contains told page → Contains (map page_of_job jobs) page
only_own jobs told page tells there =
    elim (tells.own page there) [
      | inl none ↦ absurd (none-contained page none)
      | inr own ↦ own
    ]

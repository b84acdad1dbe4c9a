-- The pages that jobs wait for, while a list of them is gone over.
use Rattle.std.proofs.Common.{◌≡◌, ◌≢◌, ℕ, ◌+◌, ◌⊎◌, Bool, false, true, List, [], ◌∷◌, ◌++◌, map, filter, length, refl, subst, sym, ap, ◌∙◌, arith, inl, inr, IsPermutation, Contains, eq-eqb}
use Rattle.std.specs.Prelude.{All, not}
use Rattle.std.proofs.lemmas.Bool.{both_ways}
use Rattle.std.proofs.lemmas.List.{get_or-map, length-append, length-map}
use Rattle.std.proofs.lemmas.List.Elements.{All-append, All-cons, All-contains, All-filter, All-map, All-nil, All-weaker, Contains-append_cases, Contains-get_or, filter_passes}
use Rattle.std.proofs.lemmas.List.Sorted.{All-permutation, Contains-permutation, length_permutation}
use Rattle.fg_cache.specs.Site.{Site, asked_pages}
use Rattle.fg_task.specs.declared.job.Job.{Job}
use Rattle.fg_task.specs.Book.{page_of_job}
use Rattle.fg_task.specs.Jobs.{Work, is_elsewhere, is_on}
use Rattle.fg_task.proofs.RunLaws.{All-back, All-front}
use Rattle.fg_worker.specs.declared.visiting.Seen.{Seen}
use Rattle.fg_worker.specs.declared.visiting.Seen.TheVariants as seen
use Rattle.fg_worker.specs.Visiting.{AreAsked, Covers, Moment, WentOn, left_of}
use Rattle.fg_worker.proofs.WentLaws.{went_on-more, went_on-none}

-- an element is the first one, or one behind it
contains-cases : (first one : ℕ) (rest : List ℕ) → Contains (first ∷ rest) one → (first ≡ one) ⊎ Contains rest one
contains-cases first one rest held =
    elim (Contains-append_cases (first ∷ []) rest one held) [
      | inl front ↦ inl (All-contains (λ (page : ℕ). first ≡ page) (first ∷ []) one (All-cons (λ (page : ℕ). first ≡ page) first [] refl (All-nil (λ (page : ℕ). first ≡ page))) front)
      | inr behind ↦ inr behind
    ]

-- each job waits for its page
all-wait : (jobs : List Job) → All (λ (job : Job). Contains (map page_of_job jobs) (page_of_job job)) jobs
all-wait jobs k job below =
    subst (Contains (map page_of_job jobs)) (get_or-map page_of_job jobs k job (page_of_job job) below)
    (Contains-get_or (map page_of_job jobs) k (page_of_job job) (omega (arith, below, length-map jobs page_of_job)))

-- a job that waits elsewhere doesn't wait for this page
elsewhere-other : (page : ℕ) (jobs : List Job) → All (λ (job : Job). page ≢ page_of_job job) (filter (is_elsewhere page) jobs)
elsewhere-other page jobs =
    All-weaker (λ (job : Job). is_elsewhere page job ≡ true) (λ (job : Job). page ≢ page_of_job job)
    (λ job test same. both_ways (is_on page job) (not_true (is_on page job) test) (eq-eqb (page_of_job job) page (sym same)))
    (filter (is_elsewhere page) jobs) (filter_passes (is_elsewhere page) jobs)
  where
    not_true : (b : Bool) → not b ≡ true → b ≡ false
    not_true false test = refl
    not_true true test = sym test

-- the jobs of the first page were run
pub covers-ran : (page : ℕ) (rest : List ℕ) (jobs left : List Job) → left ≡ filter (is_elsewhere page) jobs → Covers (page ∷ rest) jobs → Covers rest left
covers-ran page rest jobs left same covers other held =
    let there = subst (λ (some : List Job). Contains (map page_of_job some) other) same held in
    let among = All-contains (Contains (map page_of_job jobs)) (map page_of_job (filter (is_elsewhere page) jobs)) other
    (All-map (Contains (map page_of_job jobs)) page_of_job (filter (is_elsewhere page) jobs)
    (All-filter (is_elsewhere page) (λ (job : Job). Contains (map page_of_job jobs) (page_of_job job)) jobs (all-wait jobs))) there in
    let another = All-contains (λ (p : ℕ). page ≢ p) (map page_of_job (filter (is_elsewhere page) jobs)) other
    (All-map (λ (p : ℕ). page ≢ p) page_of_job (filter (is_elsewhere page) jobs) (elsewhere-other page jobs)) there in
    elim (contains-cases page other rest (covers other among)) [ inl first ↦ absurd (another first) | inr behind ↦ behind ]

-- a page that was seen, and whose jobs wait on, stays on the list
pub covers-stays : (page : ℕ) (seen now : Seen) (jobs : List Job) → now ≡ seen → left_of page seen ≡ page ∷ [] → (rest : List ℕ) → Covers (page ∷ rest) jobs
    → Covers (left_of page now ++ rest) jobs
covers-stays page seen now jobs same stays rest covers =
    subst (λ (left : List ℕ). Covers (left ++ rest) jobs) (sym (ap (left_of page) same ∙ stays)) covers

-- where no page is left no job waits
pub covers-none : (pages : List ℕ) (jobs : List Job) → pages ≡ [] → Covers pages jobs → jobs ≡ []
covers-none pages [] none covers = refl
covers-none pages (job ∷ jobs) none covers =
    let held = subst (λ (some : List ℕ). Contains some (page_of_job job)) none (covers (page_of_job job) (0, omega arith, refl)) in
    absurd (omega (arith, held.1))

-- From one moment to a later one a list of pages was gone over: what is left of it stands for the jobs that are left, and each page that left it was
-- found in the cache.
pub record GoneOver (site : Site) (work : Work) (first now : Moment) (listed left : List ℕ) (hits_first hits_now : ℕ) : Type 0 where
  pub went : WentOn site work first now
  pub asked : AreAsked site left
  pub covers : Covers listed first.jobs → Covers left now.jobs
  pub hits : hits_now + length left ≡ hits_first + length listed

-- the same pages in another order
covers-permutation : (pages others : List ℕ) (jobs : List Job) → IsPermutation pages others → Covers pages jobs → Covers others jobs
covers-permutation pages others jobs same covers page held = Contains-permutation pages others page same (covers page held)

-- what is left of a page's place is that page, or nothing
left-own : (page : ℕ) (seen : Seen) → All (λ (p : ℕ). page ≡ p) (left_of page seen)
left-own page seen.Ran = All-nil (λ (p : ℕ). page ≡ p)
left-own page seen.Waits = All-cons (λ (p : ℕ). page ≡ p) page [] refl (All-nil (λ (p : ℕ). page ≡ p))
left-own page seen.Held = All-cons (λ (p : ℕ). page ≡ p) page [] refl (All-nil (λ (p : ℕ). page ≡ p))

module _ (site : Site) (work : Work) where
  pub gone_over-none : (now : Moment) (listed : List ℕ) (hits : ℕ) → AreAsked site listed → GoneOver site work now now listed listed hits hits
  gone_over-none now listed hits asked = record { went = went_on-none site work now; asked = asked; covers = λ covers. covers; hits = refl }

  -- in another order
  pub gone_over-turned : (first now : Moment) (listed left others : List ℕ) (hits_first hits : ℕ) → GoneOver site work first now listed left hits_first hits
      → IsPermutation left others → GoneOver site work first now listed others hits_first hits
  gone_over-turned first now listed left others hits_first hits gone same = record {
    went = gone.went;
    asked = All-permutation (Contains (asked_pages site)) left others same gone.asked;
    covers = λ covers. covers-permutation left others now.jobs same (gone.covers covers);
    hits = let long = length_permutation left others same in omega (arith, long, gone.hits);
  }

  -- a list was gone over, and then what was left of it
  pub gone_over-more : (first next last : Moment) (listed between left : List ℕ) (hits_first hits_next hits_last : ℕ)
      → GoneOver site work first next listed between hits_first hits_next → GoneOver site work next last between left hits_next hits_last
      → GoneOver site work first last listed left hits_first hits_last
  gone_over-more first next last listed between left hits_first hits_next hits_last early late = record {
    went = went_on-more site work first next last early.went late.went;
    asked = late.asked;
    covers = λ covers. late.covers (early.covers covers);
    hits = omega (arith, early.hits, late.hits);
  }

  -- one page more was seen
  pub gone_over-page : (first now then : Moment) (listed rest : List ℕ) (page : ℕ) (seen : Seen) (hits_first hits hits_then : ℕ)
      → GoneOver site work first now listed (page ∷ rest) hits_first hits → WentOn site work now then
      → ((rest : List ℕ) → Covers (page ∷ rest) now.jobs → Covers (left_of page seen ++ rest) then.jobs) → hits_then + length (left_of page seen) ≡ hits + 1
      → GoneOver site work first then listed (left_of page seen ++ rest) hits_first hits_then
  gone_over-page first now then listed rest page seen hits_first hits hits_then gone went covers found = record {
    went = went_on-more site work first now then gone.went went;
    asked =
        let front = All-front (Contains (asked_pages site)) (page ∷ []) rest gone.asked in
        let behind = All-back (Contains (asked_pages site)) (page ∷ []) rest gone.asked in
        let own = All-contains (Contains (asked_pages site)) (page ∷ []) page front (0, omega arith, refl) in
        All-append (Contains (asked_pages site)) (left_of page seen) rest
        (All-weaker (λ (p : ℕ). page ≡ p) (Contains (asked_pages site)) (λ p same. subst (Contains (asked_pages site)) same own) (left_of page seen) (left-own page seen)) behind;
    covers = λ covered. covers rest (gone.covers covered);
    hits =
        let parts = length-append (left_of page seen) rest in
        omega (arith, parts, gone.hits, found);
  }

-- A round over the list of pages, and all rounds.
use Rattle.std.proofs.Common.{◌≡◌, ℕ, ◌+◌, List, [], ◌∷◌, ◌++◌, length, map, subst, sym, ap, ◌∙◌, arith, IsPermutation, Contains, append_assoc, append-nil}
use Rattle.std.proofs.lemmas.List.Elements.{All-append, All-contains, All-contains_itself, All-weaker, Contains-append_left, Contains-push}
use Rattle.std.proofs.lemmas.List.Sorted.{All-permutation, Contains-permutation, IsPermutation-append_comm, IsPermutation-append_right, IsPermutation-middle, length_permutation}
use Rattle.fg_cache.specs.Site.{Site, asked_pages}
use Rattle.fg_task.specs.declared.job.Job.{Job}
use Rattle.fg_task.specs.Book.{ArePagesOf, page_of_job}
use Rattle.fg_task.specs.Jobs.{Work}
use Rattle.fg_task.proofs.RunLaws.{All-back, All-front}
use Rattle.fg_worker.specs.declared.visiting.Seen.{Seen}
use Rattle.fg_worker.specs.declared.visiting.Seen.TheVariants as seen
use Rattle.fg_worker.specs.Visiting.{AreAsked, Covers, MayGoOn, Moment, WentOn, left_of}
use Rattle.fg_worker.proofs.CoverLaws.{GoneOver, gone_over-more, gone_over-page, gone_over-turned}
use Rattle.fg_worker.proofs.WentLaws.{may_go_on-then, went_on-more}

-- a list without its last page, and that page
popped : (pages rest kept : List ℕ) (page : ℕ) → pages ≡ rest ++ page ∷ [] → IsPermutation (pages ++ kept) (page ∷ (rest ++ kept))
popped pages rest kept page same =
    subst (λ (all : List ℕ). IsPermutation all (page ∷ (rest ++ kept))) (sym (ap (λ (some : List ℕ). some ++ kept) same ∙ append_assoc rest (page ∷ []) kept))
    (IsPermutation-middle rest page kept)

-- what is left of a page comes behind what was kept
kept_behind : (left rest kept : List ℕ) → IsPermutation (left ++ (rest ++ kept)) (rest ++ (kept ++ left))
kept_behind left rest kept =
    subst (λ (all : List ℕ). IsPermutation (left ++ (rest ++ kept)) all) (append_assoc rest kept left) (IsPermutation-append_comm left (rest ++ kept))

pub kept-ran : (page : ℕ) (now : Seen) (kept new : List ℕ) → now ≡ seen.Ran → new ≡ kept → new ≡ kept ++ left_of page now
kept-ran page now kept new ran same = same ∙ sym (append-nil kept) ∙ ap (λ (s : Seen). kept ++ left_of page s) (sym ran)

pub kept-waits : (page : ℕ) (now : Seen) (kept new : List ℕ) → now ≡ seen.Waits → new ≡ kept ++ page ∷ [] → new ≡ kept ++ left_of page now
kept-waits page now kept new waits same = same ∙ ap (λ (s : Seen). kept ++ left_of page s) (sym waits)

pub kept-held : (page : ℕ) (now : Seen) (kept new : List ℕ) → now ≡ seen.Held → new ≡ kept ++ page ∷ [] → new ≡ kept ++ left_of page now
kept-held page now kept new held same = same ∙ ap (λ (s : Seen). kept ++ left_of page s) (sym held)

-- pages of both lists may be asked for
pub asked-parts : (site : Site) (pages same_pages kept : List ℕ) → pages ≡ same_pages → AreAsked site (pages ++ kept) → AreAsked site same_pages × AreAsked site kept
asked-parts site pages same_pages kept same asked =
    (subst (AreAsked site) same (All-front (Contains (asked_pages site)) pages kept asked), All-back (Contains (asked_pages site)) pages kept asked)

pub asked-popped : (site : Site) (pages rest kept : List ℕ) (page : ℕ) → pages ≡ rest ++ page ∷ [] → AreAsked site (pages ++ kept) → Contains (asked_pages site) page
asked-popped site pages rest kept page same asked =
    All-contains (Contains (asked_pages site)) (pages ++ kept) page asked
    (Contains-append_left pages kept page (subst (λ (some : List ℕ). Contains some page) (sym same) (Contains-push rest page)))

pub covers-same : (pages same_pages kept : List ℕ) (jobs : List Job) → pages ≡ same_pages → Covers (pages ++ kept) jobs → Covers (same_pages ++ kept) jobs
covers-same pages same_pages kept jobs same covers = subst (λ (some : List ℕ). Covers (some ++ kept) jobs) same covers

-- the function of the book stays the same while its jobs are run
module _ {F : Type 0} (work_of : F → Work) (site : Site) (first_function now_function : F) (same : now_function ≡ first_function) (first now : Moment) where
  pub went_on-next : (then : Moment) → WentOn site (work_of first_function) first now → WentOn site (work_of now_function) now then
      → WentOn site (work_of first_function) first then
  went_on-next then early late =
      went_on-more site (work_of first_function) first now then early (subst (λ (function : F). WentOn site (work_of function) now then) same late)

  pub may_go_on-next : MayGoOn (work_of first_function) first → WentOn site (work_of first_function) first now → MayGoOn (work_of now_function) now
  may_go_on-next may went =
      subst (λ (function : F). MayGoOn (work_of function) now) (sym same) (may_go_on-then site (work_of first_function) first now may went)

  -- the last page of the list was seen
  pub gone_over-visit : (then : Moment) (listed pages rest kept new_kept : List ℕ) (page : ℕ) (how : Seen) (hits_first hits hits_then : ℕ)
      → pages ≡ rest ++ page ∷ [] → new_kept ≡ kept ++ left_of page how → GoneOver site (work_of first_function) first now listed (pages ++ kept) hits_first hits
      → WentOn site (work_of now_function) now then → ((others : List ℕ) → Covers (page ∷ others) now.jobs → Covers (left_of page how ++ others) then.jobs)
      → hits_then + length (left_of page how) ≡ hits + 1
      → GoneOver site (work_of first_function) first then listed (rest ++ new_kept) hits_first hits_then
  gone_over-visit then listed pages rest kept new_kept page how hits_first hits hits_then last keeps gone went covers found =
      let work = work_of first_function in
      subst (λ (some : List ℕ). GoneOver site work first then listed (rest ++ some) hits_first hits_then) (sym keeps)
      (gone_over-turned site work first then listed (left_of page how ++ (rest ++ kept)) (rest ++ (kept ++ left_of page how)) hits_first hits_then
      (gone_over-page site work first now then listed (rest ++ kept) page how hits_first hits hits_then
      (gone_over-turned site work first now listed (pages ++ kept) (page ∷ (rest ++ kept)) hits_first hits gone (popped pages rest kept page last))
      (subst (λ (function : F). WentOn site (work_of function) now then) same went) covers found)
      (kept_behind (left_of page how) rest kept))

  -- a round more
  pub gone_over-round : (then : Moment) (listed pages left : List ℕ) (hits_first hits hits_then : ℕ)
      → GoneOver site (work_of first_function) first now listed pages hits_first hits
      → WentOn site (work_of now_function) now then → AreAsked site left → (Covers pages now.jobs → Covers left then.jobs)
      → hits_then + length left ≡ hits + length pages
      → GoneOver site (work_of first_function) first then listed left hits_first hits_then
  gone_over-round then listed pages left hits_first hits hits_then gone went asked covers found =
      gone_over-more site (work_of first_function) first now then listed pages left hits_first hits hits_then gone
      (record { went = subst (λ (function : F). WentOn site (work_of function) now then) same went; asked = asked; covers = covers; hits = found })

-- what was kept comes back to the list, in the other order
module _ (pages kept left left_kept turned new : List ℕ) (none : kept ≡ []) (same : IsPermutation left_kept turned) (back : new ≡ left ++ turned) where
  all_back : IsPermutation (left ++ left_kept) new
  all_back = subst (IsPermutation (left ++ left_kept)) (sym back) (IsPermutation-append_right left left_kept turned same)

  all_given : pages ++ kept ≡ pages
  all_given = ap (λ (some : List ℕ). pages ++ some) none ∙ append-nil pages

  pub round-asked : (site : Site) → AreAsked site left × AreAsked site left_kept → AreAsked site new
  round-asked site asked =
      All-permutation (Contains (asked_pages site)) (left ++ left_kept) new all_back
      (All-append (Contains (asked_pages site)) left left_kept asked.0 asked.1)

  pub round-covers : (jobs jobs_left : List Job) → (Covers (pages ++ kept) jobs → Covers (left ++ left_kept) jobs_left) → Covers pages jobs → Covers new jobs_left
  round-covers jobs jobs_left covers given page held =
      Contains-permutation (left ++ left_kept) new page all_back (covers (subst (λ (some : List ℕ). Covers some jobs) (sym all_given) given) page held)

  pub round-hits : (hits hits_then : ℕ) → hits_then + length (left ++ left_kept) ≡ hits + length (pages ++ kept) → hits_then + length new ≡ hits + length pages
  round-hits hits hits_then found =
      let long = length_permutation (left ++ left_kept) new all_back in
      let given = ap (λ (some : List ℕ). length some) all_given in
      omega (arith, long, given, found)

-- the pages of jobs, in whatever order
module _ (jobs : List Job) (pages turned : List ℕ) (are_pages : ArePagesOf jobs pages) (same : IsPermutation pages turned) where
  pub pages-cover : Covers turned jobs
  pages-cover page held = Contains-permutation pages turned page same (are_pages.all page held)

  pub pages-asked : (site : Site) → ((page : ℕ) → Contains (map page_of_job jobs) page → Contains (asked_pages site) page) → AreAsked site turned
  pages-asked site asked =
      All-permutation (Contains (asked_pages site)) pages turned same
      (All-weaker (Contains pages) (Contains (asked_pages site)) (λ page held. asked page (are_pages.own page held)) pages (All-contains_itself pages))

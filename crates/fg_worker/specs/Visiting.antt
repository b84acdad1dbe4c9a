-- How a block's jobs are run, page by page, in whatever order the pages come.
use Rattle.std.specs.Prelude.{◌≡◌, ℕ, ◌+◌, ◌^◌, ◌<◌, ◌≤◌, Option, None, Some, List, [], ◌∷◌, ◌++◌, All, IsPermutation, length, map, slice_index_or}
use Rattle.std.specs.List.{Contains}
use Rattle.fg_base.specs.declared.plain.BadEdge.{BadEdge}
use Rattle.fg_batch.specs.Outbox.{Sending, Sends}
use Rattle.fg_cache.specs.Pass.{Token}
use Rattle.fg_cache.specs.Site.{Site, asked_pages}
use Rattle.fg_cell.specs.Pages.{IsPageOf}
use Rattle.fg_model.specs.declared.mail.Mail.{Mail}
use Rattle.fg_task.specs.declared.job.Job.{Job}
use Rattle.fg_task.specs.Book.{ArePagesOf, jobs_of, page_of_job}
use Rattle.fg_task.specs.Jobs.{Work}
use Rattle.fg_task.specs.Least.{IsLeastBad}
use Rattle.fg_task.specs.Running.{entries_of}
use Rattle.fg_worker.specs.declared.block_run.BlockRun.{BlockRun}
use Rattle.fg_worker.specs.declared.hand.Hand.{Hand}
use Rattle.fg_worker.specs.declared.visiting.Seen.{Seen}
use Rattle.fg_worker.specs.declared.visiting.Seen.TheVariants as seen
use Rattle.fg_worker.specs.Hand.{hits_of}
use Rattle.fg_worker.specs.Jobs.{edges_by, mails_by}

-- a page of an image whose pages are told
abbrev pub told_page : List (List ℕ) → ℕ → List ℕ
told_page pages page = slice_index_or pages page []

-- These jobs were run, each on the bytes of its page: these messages were sent, and this is the least bad edge.
pub record WereRun (site : Site) (work : Work) (jobs : List Job) (mails : List Mail) (least : Option BadEdge) : Type 0 where
  pub all_sent : least ≡ None → length mails ≡ entries_of work jobs
  pub messages : (pages : List (List ℕ)) → site.image ≡ Some pages → IsPermutation (mails_by work (told_page pages) jobs) mails
  pub bad : (pages : List (List ℕ)) → site.image ≡ Some pages → IsLeastBad work.n (edges_by work (told_page pages) jobs) least

-- a moment of a block: the jobs that wait, the least bad edge so far, what is sent, and how many entries were counted
pub record Moment : Type 0 where
  pub jobs : List Job
  pub least : Option BadEdge
  pub outbox : Sending
  pub entries : ℕ

abbrev pub moment_of : {F T : Type 0} → (T → ℕ) → BlockRun F → Hand T → Moment
moment_of entries run hand = record { jobs = jobs_of run.book; least = run.least; outbox = hand.outbox; entries = entries hand.tally }

-- all jobs can be run: their messages go to the same vertices, and their entries can be counted
pub record MayGoOn (work : Work) (now : Moment) : Type 0 where
  pub vertices : now.outbox.map.n ≡ work.n
  pub few : now.entries + entries_of work now.jobs < 2 ^ 64

-- From one moment to a later one some jobs were run, with what was run before.
pub record WentOn (site : Site) (work : Work) (old new : Moment) : Type 0 where
  pub done : List Job
  pub mails : List Mail
  pub parts : IsPermutation (done ++ new.jobs) old.jobs
  pub sent : Sends old.outbox new.outbox mails
  pub counted : new.entries ≡ old.entries + length mails
  pub few_sent : length mails ≤ entries_of work done
  pub to_vertices : All (λ (mail : Mail). mail.target < work.n) mails
  pub were_run : (before : List Job) (mails_before : List Mail) → WereRun site work before mails_before old.least
      → WereRun site work (before ++ done) (mails_before ++ mails) new.least

-- a block's run and its worker went on so, where `entries` says how many entries a tally counted
abbrev pub HasGoneOn : {F T : Type 0} → Site → Work → (T → ℕ) → BlockRun F → Hand T → BlockRun F → Hand T → Type 0
HasGoneOn site work entries run hand run_then hand_then = WentOn site work (moment_of entries run hand) (moment_of entries run_then hand_then)

-- so wherever these are the bytes of this page
abbrev pub WentOnPage : ℕ → List ℕ → Work → Moment → Moment → Type 0
WentOnPage page bytes work old new = (site : Site) → IsPageOf site.image page bytes → WentOn site work old new

-- the pages that jobs wait for are on this list
abbrev pub Covers : List ℕ → List Job → Type 0
Covers pages jobs = (page : ℕ) → Contains (map page_of_job jobs) page → Contains pages page

-- if they were on the first list, those that still wait are on the second
abbrev pub StillCover : List ℕ → List Job → List ℕ → List Job → Type 0
StillCover old_pages old_jobs new_pages new_jobs = Covers old_pages old_jobs → Covers new_pages new_jobs

-- the pages found so far, and those that are still to be found
abbrev pub found_and_left : Option Token → List ℕ → ℕ
found_and_left pass pages = hits_of pass + length pages

-- each of these pages may be asked for
abbrev pub AreAsked : Site → List ℕ → Type 0
AreAsked site pages = All (Contains (asked_pages site)) pages

-- what is left of a page's place on the list once it was seen
abbrev pub left_of : ℕ → Seen → List ℕ
left_of page seen.Ran = []
left_of page seen.Waits = page ∷ []
left_of page seen.Held = page ∷ []

-- So many pages were found in the cache: each page that the jobs waited for.
pub record VisitedAll {T : Type 0} (jobs : List Job) (old new : Hand T) : Type 0 where
  pub pages : List ℕ
  pub are_pages : ArePagesOf jobs pages
  pub each : hits_of new.pass ≡ hits_of old.pass + length pages

-- What a book has to do, and which pages it waits for.
use Rattle.std.specs.Prelude.{ℕ, ◌+◌, ◌++◌, ◌∷◌, [], ◌⊎◌, List, filter, map}
use Rattle.std.specs.List.{Contains}
use Rattle.std.specs.List.Sorted.{IsStrictlyIncreasing}
use Rattle.fg_base.specs.declared.plain.Dir.{Dir}
use Rattle.fg_base.specs.declared.plain.Dir.TheVariants.{Out, In}
use Rattle.fg_task.specs.declared.job.Job.{Job}
use Rattle.fg_task.specs.Jobs.{is_elsewhere, is_on}

-- the stored function, the jobs on out-lists and on in-lists, in the order in which they were added, and how many messages were sent
pub record Book (F : Type 0) : Type 0 where
  pub function : F
  pub outs : List Job
  pub ins : List Job
  pub sent : ℕ

-- all its jobs
abbrev pub jobs_of : {F : Type 0} → Book F → List Job
jobs_of book = book.outs ++ book.ins

-- those that wait for a page
abbrev pub jobs_on : {F : Type 0} → ℕ → Book F → List Job
jobs_on page book = filter (is_on page) (jobs_of book)

-- with one job more, on a list of this direction
abbrev pub with_job : {F : Type 0} → Dir → Job → Book F → Book F
with_job Out job book = record book { outs = book.outs ++ job ∷ [] }
with_job In job book = record book { ins = book.ins ++ job ∷ [] }

-- without the jobs of a page, after they sent these many messages
abbrev pub without_page : {F : Type 0} → ℕ → ℕ → Book F → Book F
without_page page messages book = record book {
  outs = filter (is_elsewhere page) book.outs;
  ins = filter (is_elsewhere page) book.ins;
  sent = book.sent + messages;
}

-- the page of a job
abbrev pub page_of_job : Job → ℕ
page_of_job job = job.segment.page

-- the pages that jobs wait for, ascending and each once
pub record ArePagesOf (jobs : List Job) (pages : List ℕ) : Type 0 where
  pub ascending : IsStrictlyIncreasing pages
  pub all : (page : ℕ) → Contains (map page_of_job jobs) page → Contains pages page
  pub own : (page : ℕ) → Contains pages page → Contains (map page_of_job jobs) page

-- the pages `told` are the pages `before` and behind them those of the jobs
pub record Tells (jobs : List Job) (before told : List ℕ) : Type 0 where
  pub kept : (page : ℕ) → Contains before page → Contains told page
  pub all : (page : ℕ) → Contains (map page_of_job jobs) page → Contains told page
  pub own : (page : ℕ) → Contains told page → Contains before page ⊎ Contains (map page_of_job jobs) page

-- what a slip of a finished book tells
pub record Spending : Type 0 where
  pub sent : ℕ

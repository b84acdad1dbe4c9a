-- What running jobs on a page's bytes needs and does.
use Rattle.std.specs.Prelude.{◌≡◌, ℕ, ◌+◌, ◌^◌, ◌<◌, Option, List, All, length}
use Rattle.std.specs.List.{flat_map, sum_by}
use Rattle.fg_base.specs.declared.limits.TheConstants.{PAGE_BYTES}
use Rattle.fg_base.specs.declared.plain.BadEdge.{BadEdge}
use Rattle.fg_batch.specs.Outbox.{HasRoom, Sending, Sends}
use Rattle.fg_model.specs.declared.mail.Mail.{Mail}
use Rattle.fg_task.specs.declared.job.Job.{Job}
use Rattle.fg_task.specs.Book.{Book, jobs_of}
use Rattle.fg_task.specs.Jobs.{IsJob, Work, edges_in, entry_count, messages_in}
use Rattle.fg_task.specs.Least.{IsLeastBad}

-- how many entries these jobs have
abbrev pub entries_of : Work → List Job → ℕ
entries_of work jobs = sum_by (entry_count work) jobs

-- the entries that are left in a book
abbrev pub entries_in : {F : Type 0} → (F → Work) → Book F → ℕ
entries_in work book = entries_of (work book.function) (jobs_of book)

-- what they send, one job after the other
abbrev pub messages_of : Work → List ℕ → List Job → List Mail
messages_of work bytes jobs = flat_map (messages_in work bytes) jobs

-- all their entries, as edges
abbrev pub edges_of : Work → List ℕ → List Job → List BadEdge
edges_of work bytes jobs = flat_map (edges_in work bytes) jobs

-- the jobs can be run: the outbox has room for their entries, and the count of entries, which stands at `counted`, too
pub record CanRun (work : Work) (bytes : List ℕ) (jobs : List Job) (outbox : Sending) (counted : ℕ) : Type 0 where
  pub page : length bytes ≡ PAGE_BYTES
  pub are_jobs : All (IsJob work) jobs
  pub vertices : outbox.map.n ≡ work.n
  pub room : HasRoom (entries_of work jobs) outbox
  pub few : counted + entries_of work jobs < 2 ^ 64

-- they were run: their messages are sent, each of which was counted, and `bad` is the least bad edge
pub record HasRun (work : Work) (bytes : List ℕ) (jobs : List Job) (old new : Sending) (counted counted_then : ℕ) (bad : Option BadEdge) : Type 0 where
  pub sent : Sends old new (messages_of work bytes jobs)
  pub room : (k : ℕ) → HasRoom (k + entries_of work jobs) old → HasRoom k new
  pub entries : counted_then ≡ counted + length (messages_of work bytes jobs)
  pub least : IsLeastBad work.n (edges_of work bytes jobs) bad

-- What a job stands for, by the bytes of its page.
use Rattle.std.specs.Prelude.{ℕ, nat_le, ◌==◌, Bool, not, Option, List, filter, find, map}
use Rattle.fg_base.specs.declared.plain.BadEdge.{BadEdge}
use Rattle.fg_base.specs.declared.plain.Entry.{Entry}
use Rattle.fg_edges.specs.Segment.{IsSegment, count_of, segment_entries}
use Rattle.fg_model.specs.declared.mail.Mail.{Mail}
use Rattle.fg_model.specs.Iteration.{is_bad}
use Rattle.fg_model.specs.Program.{Rules}
use Rattle.fg_model.specs.VertexRun.{edges_from, message_along}
use Rattle.fg_task.specs.declared.job.Job.{Job}

-- what jobs are run by: the program's rules, the number of vertices, and whether entries have weights
pub record Work : Type 0 where
  pub rules : Rules
  pub n : ℕ
  pub weighted : Bool

abbrev pub work_of : Rules → ℕ → Bool → Work
work_of rules n weighted = record { rules = rules; n = n; weighted = weighted }

-- its segment is a whole number of entries within a page, with numbers below 2^32
abbrev pub IsJob : Work → Job → Type 0
IsJob work job = IsSegment work.weighted job.segment

-- how many entries it has
abbrev pub entry_count : Work → Job → ℕ
entry_count work job = count_of work.weighted job.segment

-- whether an entry leads to one of n vertices
abbrev pub leads : ℕ → Entry → Bool
leads n entry = not (nat_le n entry.target)

-- the messages along those of these entries that lead to a vertex, in order
abbrev pub messages_along : Work → Job → List Entry → List Mail
messages_along work job entries = map (message_along work.rules job.carry job.dir) (filter (leads work.n) entries)

-- the messages of a job
unfoldable pub messages_in : Work → List ℕ → Job → List Mail
messages_in work bytes job = messages_along work job (segment_entries work.weighted bytes job.segment)

-- its entries, each as the bad edge that it is where its target is no vertex
unfoldable pub edges_in : Work → List ℕ → Job → List BadEdge
edges_in work bytes job = edges_from job.vertex job.dir job.segment.place (segment_entries work.weighted bytes job.segment)

-- the first of them that leads to no vertex
abbrev pub bad_in : Work → List ℕ → Job → Option BadEdge
bad_in work bytes job = find (is_bad work.n) (edges_in work bytes job)

-- whether a job waits for this page
abbrev pub is_on : ℕ → Job → Bool
is_on page job = job.segment.page == page

abbrev pub is_elsewhere : ℕ → Job → Bool
is_elsewhere page job = not (is_on page job)

-- What a block's jobs stand for when its vertices have begun.
use Rattle.std.specs.Prelude.{◌≡◌, ℕ, List, ◌++◌, IsPermutation, length, map}
use Rattle.std.specs.List.{Contains}
use Rattle.fg_base.specs.declared.plain.Dir.{Dir}
use Rattle.fg_base.specs.declared.plain.Dir.TheVariants.{Out, In}
use Rattle.fg_edges.specs.declared.segment.Segment.{Segment}
use Rattle.fg_edges.specs.Parts.{AreParts}
use Rattle.fg_edges.specs.Segments.{list_at}
use Rattle.fg_image.specs.Lists.{graph_by}
use Rattle.fg_image.specs.Needed.{IsNeededBySome}
use Rattle.fg_index.specs.ImageIndex.{ImageIndex}
use Rattle.fg_stripe.specs.declared.layout.Layout.{Layout}
use Rattle.fg_stripe.specs.Held.{page_of}
use Rattle.fg_task.specs.declared.job.Job.{Job}
use Rattle.fg_task.specs.Book.{Book, page_of_job}
use Rattle.fg_task.specs.Running.{entries_of}
use Rattle.fg_task.specs.Block.{mail_of, needed_of}
use Rattle.fg_worker.specs.Desk.{Setting, graph_of, work_in}
use Rattle.fg_worker.specs.Jobs.{edges_by, mails_by}

-- the job on a segment of a vertex's list, with the vertex's carry
abbrev pub job_on : ℕ → Dir → ℕ → Segment → Job
job_on v dir carry segment = record { vertex = v; dir = dir; carry = carry; segment = segment }

-- with these jobs behind those on lists of this direction
abbrev pub with_jobs : {F : Type 0} → Dir → List Job → Book F → Book F
with_jobs Out jobs book = record book { outs = book.outs ++ jobs }
with_jobs In jobs book = record book { ins = book.ins ++ jobs }

-- a list was added: one job for each of its segments, in order
pub record AddsList {F : Type 0} (layout : Layout) (index : ImageIndex) (dir : Dir) (v carry : ℕ) (old new : Book F) : Type 0 where
  pub segments : List Segment
  pub are_parts : AreParts (list_at layout index dir v) segments
  pub one_each : new ≡ with_jobs dir (map (job_on v dir carry) segments) old

-- The jobs stand for what these vertices need and send: they have as many entries, and by the bytes of any image just their edges
-- and messages. They wait for the pages on which the needed lists stand, and for no others.
pub record StandFor (S : Setting) (vertices : List ℕ) (jobs : List Job) : Type 0 where
  pub entries : entries_of (work_in S) jobs ≡ length (needed_of S.rules (graph_of S) vertices)
  pub messages : (image : List ℕ)
      → IsPermutation (mail_of S.rules (graph_by S.layout S.index image) S.phase S.states vertices) (mails_by (work_in S) (page_of image) jobs)
  pub edges : (image : List ℕ)
      → IsPermutation (needed_of S.rules (graph_by S.layout S.index image) vertices) (edges_by (work_in S) (page_of image) jobs)
  pub needed : (page : ℕ) → Contains (map page_of_job jobs) page → IsNeededBySome S.layout S.index S.rules.need vertices page
  pub all_needed : (page : ℕ) → IsNeededBySome S.layout S.index S.rules.need vertices page → Contains (map page_of_job jobs) page

-- jobs that stood for some vertices stand for these too
abbrev pub StandForMore : Setting → List ℕ → List Job → List Job → Type 0
StandForMore S more old new = (vertices : List ℕ) → StandFor S vertices old → StandFor S (vertices ++ more) new

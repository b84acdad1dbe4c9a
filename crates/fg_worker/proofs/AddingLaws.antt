-- The segments of a list come into a book one after another.
use Rattle.std.proofs.Common.{◌≡◌, ℕ, List, [], ◌∷◌, map, refl, sym, ap, ◌∙◌, subst, append_assoc}
use Rattle.std.proofs.lemmas.List.{append-nil}
use Rattle.fg_base.specs.declared.plain.Dir.{Dir}
use Rattle.fg_base.specs.declared.plain.Dir.TheVariants.{Out, In}
use Rattle.fg_edges.specs.declared.segment.Segment.{Segment}
use Rattle.fg_edges.specs.Parts.{AreParts}
use Rattle.fg_edges.specs.Segment.{count_of}
use Rattle.fg_edges.specs.Segments.{IsNext, ListRest, behind, list_at}
use Rattle.fg_index.specs.ImageIndex.{ImageIndex}
use Rattle.fg_stripe.specs.declared.layout.Layout.{Layout}
use Rattle.fg_task.specs.declared.job.Job.{Job}
use Rattle.fg_task.specs.Book.{Book, with_job}
use Rattle.fg_worker.specs.Beginning.{AddsList, job_on, with_jobs}

-- jobs one after another
with_jobs-one : {F : Type 0} (dir : Dir) (job : Job) (jobs : List Job) (book : Book F) → with_jobs dir (job ∷ jobs) book ≡ with_jobs dir jobs (with_job dir job book)
with_jobs-one {F = F} Out job jobs book = ap (λ (outs : List Job). with_outs outs) (sym (append_assoc book.outs (job ∷ []) jobs))
  where
    with_outs : List Job → Book F
    with_outs outs = record book { outs = outs }
with_jobs-one {F = F} In job jobs book = ap (λ (ins : List Job). with_ins ins) (sym (append_assoc book.ins (job ∷ []) jobs))
  where
    with_ins : List Job → Book F
    with_ins ins = record book { ins = ins }

with_jobs-none : {F : Type 0} (dir : Dir) (book : Book F) → with_jobs dir [] book ≡ book
with_jobs-none {F = F} Out book = ap (λ (outs : List Job). with_outs outs) (append-nil book.outs)
  where
    with_outs : List Job → Book F
    with_outs outs = record book { outs = outs }
with_jobs-none {F = F} In book = ap (λ (ins : List Job). with_ins ins) (append-nil book.ins)
  where
    with_ins : List Job → Book F
    with_ins ins = record book { ins = ins }

module _ {F : Type 0} (layout : Layout) (index : ImageIndex) (dir : Dir) (v carry : ℕ) (old : Book F) where
  -- once the rest of the list is added too, the list is added
  abbrev pub AddsRest : ListRest → Book F → Type 0
  AddsRest rest book =
      (segments : List Segment) → AreParts rest segments → AddsList layout index dir v carry old (with_jobs dir (map (job_on v dir carry) segments) book)

  pub adds-none : AddsRest (list_at layout index dir v) old
  adds-none segments parts = record { segments = segments; are_parts = parts; one_each = refl }

  pub adds-one : (rest : ListRest) (segment : Segment) (next : ListRest) (book new : Book F) → IsNext rest segment
      → next ≡ behind rest (count_of rest.weighted segment) → new ≡ with_job dir (job_on v dir carry segment) book → AddsRest rest book → AddsRest next new
  adds-one rest segment next book new first goes added adds segments parts =
      let parted = subst (λ (left : ListRest). AreParts left segments) goes parts in
      let same = with_jobs-one dir (job_on v dir carry segment) (map (job_on v dir carry) segments) book in
      subst (λ (last : Book F). AddsList layout index dir v carry old last)
      (same ∙ sym (ap (with_jobs dir (map (job_on v dir carry) segments)) added))
      (adds (segment ∷ segments) (first, parted))

  pub adds-all : (rest : ListRest) (book : Book F) → rest.count ≡ 0 → AddsRest rest book → AddsList layout index dir v carry old book
  adds-all rest book none adds = subst (λ (last : Book F). AddsList layout index dir v carry old last) (with_jobs-none dir book) (adds [] none)

-- the function stays
pub with_job-function : {F : Type 0} (dir : Dir) (job : Job) (book new : Book F) → new ≡ with_job dir job book → new.function ≡ book.function
with_job-function {F = F} Out job book new added = ap (λ (b : Book F). b.function) added
with_job-function {F = F} In job book new added = ap (λ (b : Book F). b.function) added

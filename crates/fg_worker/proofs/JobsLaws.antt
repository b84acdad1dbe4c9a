-- The jobs on a vertex's needed lists stand for what the vertex needs and sends.
use Rattle.std.proofs.Common.{◌≡◌, ℕ, ◌+◌, ◌<◌, ◌≤◌, inl, inr, Bool, true, false, List, [], ◌∷◌, ◌++◌, length, map, refl, sym, ap, ap₂, ◌∙◌, subst, arith}
use Rattle.std.specs.Prelude.{filter, slice_index}
use Rattle.std.specs.List.{Contains, range_with_len}
use Rattle.std.proofs.lemmas.List.{get_or_past, length-append, map-append}
use Rattle.std.proofs.lemmas.List.Concat.{flat_map-append}
use Rattle.std.proofs.lemmas.List.Elements.{Contains-append_cases, Contains-append_left, Contains-append_right, filter-append}
use Rattle.std.proofs.lemmas.List.FromFn.{get_or-map-range_with_len, length-map-range_with_len}
use Rattle.std.proofs.lemmas.List.Sums.{sum_by-append}
use Rattle.fg_base.specs.declared.plain.BadEdge.{BadEdge}
use Rattle.fg_base.specs.declared.plain.Dir.{Dir}
use Rattle.fg_base.specs.declared.plain.Dir.TheVariants.{Out, In}
use Rattle.fg_base.specs.declared.plain.Entry.{Entry}
use Rattle.fg_base.specs.declared.plain.Need.{Need}
use Rattle.fg_edges.proofs.PartsLaws.{parts_are_the_list}
use Rattle.fg_edges.specs.declared.segment.Segment.{Segment}
use Rattle.fg_edges.specs.Parts.{AreParts}
use Rattle.fg_edges.specs.Segments.{list_at}
use Rattle.fg_image.proofs.EntryLaws.{length-entries_at}
use Rattle.fg_image.specs.Lists.{begin_of, graph_by, list_of}
use Rattle.fg_image.specs.Needed.{HoldsListOf, IsNeededPage}
use Rattle.fg_index.specs.ImageIndex.{degrees_in}
use Rattle.fg_model.specs.declared.graph.Graph.{Graph}
use Rattle.fg_model.specs.declared.mail.Mail.{Mail}
use Rattle.fg_model.specs.Graph.{row}
use Rattle.fg_model.specs.VertexRun.{edges_from, edges_of, message_along, over_lists}
use Rattle.fg_stripe.specs.Held.{page_of}
use Rattle.fg_task.specs.declared.job.Job.{Job}
use Rattle.fg_task.specs.Book.{page_of_job}
use Rattle.fg_task.specs.Jobs.{Work, entry_count, leads}
use Rattle.fg_task.specs.Running.{entries_of}
use Rattle.fg_worker.specs.Beginning.{job_on}
use Rattle.fg_task.specs.Block.{goes_to_one}
use Rattle.fg_worker.specs.Desk.{Setting, graph_of, image_of, work_in}
use Rattle.fg_worker.specs.Jobs.{edges_by, mails_by}
use Rattle.fg_worker.proofs.ListLaws.{Contains-cases, Contains-first, Contains-later}
use Rattle.fg_worker.proofs.SegmentLaws.{along, length-edges_from, segments-all_held, segments-edges, segments-entries, segments-held, segments-mails}

-- jobs one after another
pub mails_by-append : (work : Work) (bytes_of : ℕ → List ℕ) (xs ys : List Job) → mails_by work bytes_of (xs ++ ys) ≡ mails_by work bytes_of xs ++ mails_by work bytes_of ys
unfolding mails_by
mails_by-append work bytes_of xs ys = flat_map-append _ xs ys

pub edges_by-append : (work : Work) (bytes_of : ℕ → List ℕ) (xs ys : List Job) → edges_by work bytes_of (xs ++ ys) ≡ edges_by work bytes_of xs ++ edges_by work bytes_of ys
unfolding edges_by
edges_by-append work bytes_of xs ys = flat_map-append _ xs ys

-- the lists of one direction
abbrev pub rows_in : Dir → Graph → List (List Entry)
rows_in Out graph = graph.outs
rows_in In graph = graph.ins

pub row-is : (S : Setting) (image : List ℕ) (dir : Dir) (v : ℕ) → v < length S.index.outs
    → row (rows_in dir (graph_by S.layout S.index image)) v ≡ list_of S.layout S.index image dir v
unfolding graph_by
row-is S image Out v below = get_or-map-range_with_len (list_of S.layout S.index image Out) 0 (length S.index.outs) v v [] below (omega arith)
row-is S image In v below = get_or-map-range_with_len (list_of S.layout S.index image In) 0 (length S.index.outs) v v [] below (omega arith)

pub row-none : (S : Setting) (image : List ℕ) (dir : Dir) (v : ℕ) → length S.index.outs ≤ v → row (rows_in dir (graph_by S.layout S.index image)) v ≡ []
unfolding graph_by
row-none S image Out v past =
    get_or_past (map (list_of S.layout S.index image Out) (range_with_len 0 (length S.index.outs))) v []
    (subst (λ (n : ℕ). n ≤ v) (sym (length-map-range_with_len (list_of S.layout S.index image Out) 0 (length S.index.outs))) past)
row-none S image In v past =
    get_or_past (map (list_of S.layout S.index image In) (range_with_len 0 (length S.index.outs))) v []
    (subst (λ (n : ℕ). n ≤ v) (sym (length-map-range_with_len (list_of S.layout S.index image In) 0 (length S.index.outs))) past)

-- jobs stand for one list
pub record ListJobs (S : Setting) (dir : Dir) (v carry : ℕ) (jobs : List Job) : Type 0 where
  pub entries : entries_of (work_in S) jobs ≡ length (edges_from v dir 0 (row (rows_in dir (graph_of S)) v))
  pub messages : (image : List ℕ) → mails_by (work_in S) (page_of image) jobs ≡ along (work_in S) carry dir (row (rows_in dir (graph_by S.layout S.index image)) v)
  pub edges : (image : List ℕ) → edges_by (work_in S) (page_of image) jobs ≡ edges_from v dir 0 (row (rows_in dir (graph_by S.layout S.index image)) v)
  pub held : (page : ℕ) → Contains (map page_of_job jobs) page → HoldsListOf S.layout S.index dir v page
  pub all_held : (page : ℕ) → HoldsListOf S.layout S.index dir v page → Contains (map page_of_job jobs) page

pub list-jobs : (S : Setting) (dir : Dir) (v carry : ℕ) (ss : List Segment) → v < length S.index.outs → AreParts (list_at S.layout S.index dir v) ss
    → ListJobs S dir v carry (map (job_on v dir carry) ss)
list-jobs S dir v carry ss below parts =
    let work : Work = work_in S in
    let at : ℕ = begin_of S.layout S.index dir v in
    let count : ℕ = slice_index (degrees_in S.index dir) v in
    let length_is : length (row (rows_in dir (graph_of S)) v) ≡ count =
    ap (λ (entries : List Entry). length entries) (row-is S (image_of S.site.image) dir v below)
    ∙ length-entries_at S.index.weighted (image_of S.site.image) at count in
    record {
      entries = segments-entries work v carry dir at 0 count ss parts
          ∙ sym (length-edges_from v dir (row (rows_in dir (graph_of S)) v) 0 ∙ length_is);
      messages = λ image. segments-mails work v carry dir image ss
          ∙ ap (along work carry dir) (parts_are_the_list image (list_at S.layout S.index dir v) ss parts ∙ sym (row-is S image dir v below));
      edges = λ image. segments-edges work v carry dir image at 0 count ss parts
          ∙ ap (edges_from v dir 0) (parts_are_the_list image (list_at S.layout S.index dir v) ss parts ∙ sym (row-is S image dir v below));
      held = segments-held work v carry dir at 0 count ss parts;
      all_held = segments-all_held work v carry dir at 0 count ss parts;
    }

-- jobs stand for the needed lists of a vertex, of which the program needs these
pub record NeedJobs (S : Setting) (need : Need) (v carry : ℕ) (jobs : List Job) : Type 0 where
  pub entries : entries_of (work_in S) jobs ≡ length (edges_of need (graph_of S) v)
  pub messages : (image : List ℕ) → mails_by (work_in S) (page_of image) jobs
      ≡ over_lists need (graph_by S.layout S.index image) v (λ dir entries. along (work_in S) carry dir entries)
  pub edges : (image : List ℕ) → edges_by (work_in S) (page_of image) jobs ≡ edges_of need (graph_by S.layout S.index image) v
  pub needed : (page : ℕ) → Contains (map page_of_job jobs) page → IsNeededPage S.layout S.index need v page
  pub all_needed : (page : ℕ) → IsNeededPage S.layout S.index need v page → Contains (map page_of_job jobs) page

-- of the needed lists one is this
one-dir : (x dir : Dir) → Contains (x ∷ []) dir → x ≡ dir
one-dir x dir among = elim (Contains-cases x [] dir among) [ inl same ↦ same | inr none ↦ absurd (omega (arith, none.1)) ]

module _ (S : Setting) (v carry : ℕ) where
  pub jobs-out : (outs : List Job) → ListJobs S Out v carry outs → NeedJobs S Need.Out v carry outs
  jobs-out outs jobs = record {
    entries = jobs.entries;
    messages = jobs.messages;
    edges = jobs.edges;
    needed = λ page among. record { dir = Out; is_needed = Contains-first Out [] Out refl; holds = jobs.held page among };
    all_needed = λ page is. jobs.all_held page (subst (λ (dir : Dir). HoldsListOf S.layout S.index dir v page) (sym (one-dir Out is.dir is.is_needed)) is.holds);
  }

  pub jobs-in : (ins : List Job) → ListJobs S In v carry ins → NeedJobs S Need.In v carry ins
  jobs-in ins jobs = record {
    entries = jobs.entries;
    messages = jobs.messages;
    edges = jobs.edges;
    needed = λ page among. record { dir = In; is_needed = Contains-first In [] In refl; holds = jobs.held page among };
    all_needed = λ page is. jobs.all_held page (subst (λ (dir : Dir). HoldsListOf S.layout S.index dir v page) (sym (one-dir In is.dir is.is_needed)) is.holds);
  }

  pub jobs-both : (outs ins : List Job) → ListJobs S Out v carry outs → ListJobs S In v carry ins → NeedJobs S Need.Both v carry (outs ++ ins)
  jobs-both outs ins one other = record {
    entries = sum_by-append (entry_count (work_in S)) outs ins ∙ ap₂ (λ (a b : ℕ). a + b) one.entries other.entries
        ∙ sym (length-append (edges_from v Out 0 (row (rows_in Out (graph_of S)) v)) (edges_from v In 0 (row (rows_in In (graph_of S)) v)));
    messages = λ image. mails_by-append (work_in S) (page_of image) outs ins ∙ ap₂ (λ (a b : List Mail). a ++ b) (one.messages image) (other.messages image);
    edges = λ image. edges_by-append (work_in S) (page_of image) outs ins ∙ ap₂ (λ (a b : List BadEdge). a ++ b) (one.edges image) (other.edges image);
    needed = λ page among.
        elim (Contains-append_cases (map page_of_job outs) (map page_of_job ins) page
        (subst (λ (pages : List ℕ). Contains pages page) (map-append page_of_job outs ins) among)) [
          | inl out ↦ record { dir = Out; is_needed = Contains-first Out (In ∷ []) Out refl; holds = one.held page out }
          | inr into ↦ record { dir = In; is_needed = Contains-later Out (In ∷ []) In (Contains-first In [] In refl); holds = other.held page into }
        ];
    all_needed = λ page is.
        subst (λ (pages : List ℕ). Contains pages page) (sym (map-append page_of_job outs ins))
        (elim (Contains-cases Out (In ∷ []) is.dir is.is_needed) [
          | inl out ↦ Contains-append_left (map page_of_job outs) (map page_of_job ins) page
              (one.all_held page (subst (λ (dir : Dir). HoldsListOf S.layout S.index dir v page) (sym out) is.holds))
          | inr into ↦ Contains-append_right (map page_of_job outs) (map page_of_job ins) page
              (other.all_held page (subst (λ (dir : Dir). HoldsListOf S.layout S.index dir v page) (sym (one-dir In is.dir into)) is.holds))
        ]);
  }

-- of a vertex's messages those that go to a vertex are those along the entries that lead to one
along-is : (work : Work) (carry : ℕ) (dir : Dir) (entries : List Entry)
    → filter (goes_to_one work.n) (map (message_along work.rules carry dir) entries) ≡ along work carry dir entries
along-is work carry dir [] = refl
along-is work carry dir (entry ∷ entries) = by_case (leads work.n entry) refl (along-is work carry dir entries)
  where
    by_case : (test : Bool) → leads work.n entry ≡ test
        → filter (goes_to_one work.n) (map (message_along work.rules carry dir) entries) ≡ along work carry dir entries
        → filter (goes_to_one work.n) (map (message_along work.rules carry dir) (entry ∷ entries)) ≡ along work carry dir (entry ∷ entries)
    by_case true test rest = rw test (ap (λ (mails : List Mail). message_along work.rules carry dir entry ∷ mails) rest)
    by_case false test rest = rw test rest

pub sent-is : (work : Work) (graph : Graph) (need : Need) (v carry : ℕ)
    → filter (goes_to_one work.n) (over_lists need graph v (λ dir entries. map (message_along work.rules carry dir) entries))
    ≡ over_lists need graph v (λ dir entries. along work carry dir entries)
sent-is work graph Need.Out v carry = along-is work carry Out (row graph.outs v)
sent-is work graph Need.In v carry = along-is work carry In (row graph.ins v)
sent-is work graph Need.Both v carry =
    filter-append (goes_to_one work.n) (map (message_along work.rules carry Out) (row graph.outs v)) (map (message_along work.rules carry In) (row graph.ins v))
    ∙ ap₂ (λ (a b : List Mail). a ++ b) (along-is work carry Out (row graph.outs v)) (along-is work carry In (row graph.ins v))

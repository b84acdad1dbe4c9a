-- The jobs of one page are run on its bytes.
use Rattle.std.proofs.Common.{◌≡◌, ℕ, ◌+◌, ◌<◌, ◌≤◌, Bool, true, false, Option, None, Some, List, [], ◌∷◌, ◌++◌, length, refl, subst, sym, ap, ◌∙◌, arith, IsPermutation, nat_le, eqb-true, le-leb, tests, rules, flat_map}
use Rattle.std.specs.Prelude.{All, filter, slice_get}
use Rattle.std.proofs.lemmas.Bool.{both_ways}
use Rattle.std.proofs.lemmas.Grind.{flat_map-append}
use Rattle.std.proofs.lemmas.List.{length-append}
use Rattle.std.proofs.lemmas.List.Elements.{All-append, All-cons, All-head, All-nil, All-tail, filter-append, filter_passes}
use Rattle.std.proofs.lemmas.List.Sorted.{IsPermutation-append, IsPermutation-filter_both, IsPermutation-refl, IsPermutation-sym}
use Rattle.std.proofs.lemmas.List.Sums.{sum_by-append, sum_by-cons}
use Rattle.std.proofs.lemmas.Option.{get_or_from_slice_get}
use Rattle.fg_base.specs.declared.plain.BadEdge.{BadEdge}
use Rattle.fg_base.specs.declared.plain.Dir.{Dir}
use Rattle.fg_base.specs.declared.plain.Entry.{Entry}
use Rattle.fg_batch.specs.Outbox.{Sending, Sends}
use Rattle.fg_batch.proofs.SentLaws.{sends-more}
use Rattle.fg_cache.specs.Site.{Site}
use Rattle.fg_cell.specs.Pages.{IsPageOf}
use Rattle.fg_edges.specs.Segment.{segment_entries}
use Rattle.fg_image.proofs.EntryLaws.{length-entries_at}
use Rattle.fg_model.specs.declared.mail.Mail.{Mail}
use Rattle.fg_model.specs.Iteration.{is_bad}
use Rattle.fg_model.specs.VertexRun.{edges_from}
use Rattle.fg_task.specs.declared.job.Job.{Job}
use Rattle.fg_task.specs.Jobs.{Work, edges_in, entry_count, is_elsewhere, is_on, messages_along, messages_in}
use Rattle.fg_task.specs.Least.{IsLeastBad, Joins, rank}
use Rattle.fg_task.specs.Running.{edges_of, entries_of, messages_of}
use Rattle.fg_task.proofs.RunLaws.{All-back, All-front, all_messages_few}
use Rattle.fg_worker.specs.Jobs.{edges_by, mails_by}
use Rattle.fg_worker.specs.Visiting.{WentOn, WereRun, told_page}

-- the jobs of a page and the others are all of them
parts-of_page : (page : ℕ) (outs ins : List Job)
    → IsPermutation (filter (is_on page) (outs ++ ins) ++ (filter (is_elsewhere page) outs ++ filter (is_elsewhere page) ins)) (outs ++ ins)
parts-of_page page outs ins =
    subst (λ (others : List Job). IsPermutation (filter (is_on page) (outs ++ ins) ++ others) (outs ++ ins)) (filter-append (is_elsewhere page) outs ins)
    (IsPermutation-sym (outs ++ ins) (filter (is_on page) (outs ++ ins) ++ filter (is_elsewhere page) (outs ++ ins))
    (IsPermutation-filter_both (is_on page) (is_elsewhere page) (λ job. refl) (outs ++ ins)))

-- each message goes along an entry that leads to a vertex
along-to_vertices : (work : Work) (job : Job) (entries : List Entry) → All (λ (mail : Mail). mail.target < work.n) (messages_along work job entries)
along-to_vertices work job [] = All-nil (λ (mail : Mail). mail.target < work.n)
along-to_vertices work job (entry ∷ entries) = by_test (nat_le work.n entry.target) refl (along-to_vertices work job entries)
  where
    by_test : (test : Bool) → nat_le work.n entry.target ≡ test → All (λ (mail : Mail). mail.target < work.n) (messages_along work job entries)
        → All (λ (mail : Mail). mail.target < work.n) (messages_along work job (entry ∷ entries))
    by_test true test rest = rw test rest
    by_test false test rest = rw test (All-cons (λ (mail : Mail). mail.target < work.n) _ _ (search (rules, tests)) rest)

messages_in-to_vertices : (work : Work) (bytes : List ℕ) (job : Job) → All (λ (mail : Mail). mail.target < work.n) (messages_in work bytes job)
unfolding messages_in
messages_in-to_vertices work bytes job = along-to_vertices work job (segment_entries work.weighted bytes job.segment)

messages-to_vertices : (work : Work) (bytes : List ℕ) (jobs : List Job) → All (λ (mail : Mail). mail.target < work.n) (messages_of work bytes jobs)
messages-to_vertices work bytes [] = All-nil (λ (mail : Mail). mail.target < work.n)
messages-to_vertices work bytes (job ∷ jobs) =
    All-append (λ (mail : Mail). mail.target < work.n) (messages_in work bytes job) (messages_of work bytes jobs)
    (messages_in-to_vertices work bytes job) (messages-to_vertices work bytes jobs)

-- where no entry is bad each of them has its message
abbrev AllLead : ℕ → List BadEdge → Type 0
AllLead n edges = All (λ edge. is_bad n edge ≡ false) edges

along-all_sent : (work : Work) (job : Job) (v : ℕ) (dir : Dir) (place : ℕ) (entries : List Entry) → AllLead work.n (edges_from v dir place entries)
    → length (messages_along work job entries) ≡ length entries
along-all_sent work job v dir place [] fine = refl
along-all_sent work job v dir place (entry ∷ entries) fine =
    let edge : BadEdge = record { v = v; dir = dir; place = place; found = entry.target } in
    let leads_there : nat_le work.n entry.target ≡ false = All-head (λ e. is_bad work.n e ≡ false) edge (edges_from v dir (place + 1) entries) fine in
    let rest = along-all_sent work job v dir (place + 1) entries (All-tail (λ e. is_bad work.n e ≡ false) edge (edges_from v dir (place + 1) entries) fine) in
    rw leads_there (omega (arith, rest))

messages_in-all_sent : (work : Work) (bytes : List ℕ) (job : Job) → AllLead work.n (edges_in work bytes job) → length (messages_in work bytes job) ≡ entry_count work job
unfolding messages_in edges_in
messages_in-all_sent work bytes job fine =
    along-all_sent work job job.vertex job.dir job.segment.place (segment_entries work.weighted bytes job.segment) fine
    ∙ length-entries_at work.weighted bytes job.segment.from (entry_count work job)

messages-all_sent : (work : Work) (bytes : List ℕ) (jobs : List Job) → AllLead work.n (edges_of work bytes jobs) → length (messages_of work bytes jobs) ≡ entries_of work jobs
messages-all_sent work bytes [] fine = refl
messages-all_sent work bytes (job ∷ jobs) fine =
    let one = messages_in-all_sent work bytes job (All-front (λ e. is_bad work.n e ≡ false) (edges_in work bytes job) (edges_of work bytes jobs) fine) in
    let rest = messages-all_sent work bytes jobs (All-back (λ e. is_bad work.n e ≡ false) (edges_in work bytes job) (edges_of work bytes jobs) fine) in
    let both : length (messages_of work bytes (job ∷ jobs)) ≡ length (messages_in work bytes job) + length (messages_of work bytes jobs)
    = length-append (messages_in work bytes job) (messages_of work bytes jobs) in
    let all : entries_of work (job ∷ jobs) ≡ entry_count work job + entries_of work jobs = sum_by-cons (entry_count work) job jobs in
    omega (arith, one, rest, both, all)

-- Where two least bad edges join to none, both are none: an edge of no vertices at all is bad.
alone-least : (bad : BadEdge) → IsLeastBad 0 (bad ∷ []) (Some bad)
alone-least bad = record {
  bad_itself = le-leb 0 bad.found (omega arith);
  among = (0, omega arith, refl);
  least = All-cons (λ edge. is_bad 0 edge ≡ true → rank bad ≤ rank edge) bad [] (λ _. omega arith) (All-nil (λ edge. is_bad 0 edge ≡ true → rank bad ≤ rank edge));
}

none-joined : (bad : BadEdge) (edges : List BadEdge) → AllLead 0 (bad ∷ edges) → ⊥
none-joined bad edges fine = both_ways (is_bad 0 bad) (All-head (λ edge. is_bad 0 edge ≡ false) bad edges fine) (le-leb 0 bad.found (omega arith))

joins-none_left : (one other both : Option BadEdge) → Joins one other both → both ≡ None → one ≡ None
joins-none_left None other both joins none = refl
joins-none_left (Some bad) None both joins none =
    absurd (none-joined bad [] (subst (IsLeastBad 0 (bad ∷ [])) none (joins 0 (bad ∷ []) [] (alone-least bad) (All-nil (λ edge. is_bad 0 edge ≡ false)))))
joins-none_left (Some bad) (Some other) both joins none =
    absurd (none-joined bad (other ∷ []) (subst (IsLeastBad 0 (bad ∷ other ∷ [])) none (joins 0 (bad ∷ []) (other ∷ []) (alone-least bad) (alone-least other))))

joins-none_right : (one other both : Option BadEdge) → Joins one other both → both ≡ None → other ≡ None
joins-none_right one None both joins none = refl
joins-none_right None (Some bad) both joins none =
    absurd (none-joined bad [] (subst (IsLeastBad 0 (bad ∷ [])) none (joins 0 [] (bad ∷ []) (All-nil (λ edge. is_bad 0 edge ≡ false)) (alone-least bad))))
joins-none_right (Some one) (Some bad) both joins none =
    let fine : AllLead 0 (one ∷ bad ∷ []) = subst (IsLeastBad 0 (one ∷ bad ∷ [])) none (joins 0 (one ∷ []) (bad ∷ []) (alone-least one) (alone-least bad)) in
    absurd (none-joined bad [] (All-tail (λ edge. is_bad 0 edge ≡ false) one (bad ∷ []) fine))

-- what the jobs of one page stand for by all pages is what they stand for by its bytes
module _ {A : Type 0} (of_job : List ℕ → Job → List A) (bytes_of : ℕ → List ℕ) (page : ℕ) where
  page-flat : (jobs : List Job) → All (λ job. is_on page job ≡ true) jobs
      → flat_map (λ (job : Job). of_job (bytes_of job.segment.page) job) jobs ≡ flat_map (of_job (bytes_of page)) jobs
  page-flat [] on = refl
  page-flat (job ∷ jobs) on =
      let here = eqb-true job.segment.page page (All-head (λ j. is_on page j ≡ true) job jobs on) in
      let rest = page-flat jobs (All-tail (λ j. is_on page j ≡ true) job jobs on) in
      ap (λ (p : ℕ). of_job (bytes_of p) job ++ flat_map (λ (j : Job). of_job (bytes_of j.segment.page) j) jobs) here
      ∙ ap (λ (others : List A). of_job (bytes_of page) job ++ others) rest

module _ (work : Work) (pages : List (List ℕ)) (page : ℕ) (bytes : List ℕ) (told : slice_get pages page ≡ Some bytes) (jobs : List Job) where
  page-mails : mails_by work (told_page pages) (filter (is_on page) jobs) ≡ messages_of work bytes (filter (is_on page) jobs)
  unfolding mails_by
  page-mails =
      page-flat (messages_in work) (told_page pages) page (filter (is_on page) jobs) (filter_passes (is_on page) jobs)
      ∙ ap (λ (b : List ℕ). messages_of work b (filter (is_on page) jobs)) (get_or_from_slice_get pages page bytes [] told)

  page-edges : edges_by work (told_page pages) (filter (is_on page) jobs) ≡ edges_of work bytes (filter (is_on page) jobs)
  unfolding edges_by
  page-edges =
      page-flat (edges_in work) (told_page pages) page (filter (is_on page) jobs) (filter_passes (is_on page) jobs)
      ∙ ap (λ (b : List ℕ). edges_of work b (filter (is_on page) jobs)) (get_or_from_slice_get pages page bytes [] told)

-- of more jobs it is what it is of each
module _ (work : Work) (bytes_of : ℕ → List ℕ) (some others : List Job) where
  pub mails_by-append : mails_by work bytes_of (some ++ others) ≡ mails_by work bytes_of some ++ mails_by work bytes_of others
  unfolding mails_by
  mails_by-append = flat_map-append (λ (job : Job). messages_in work (bytes_of job.segment.page) job) some others

  pub edges_by-append : edges_by work bytes_of (some ++ others) ≡ edges_by work bytes_of some ++ edges_by work bytes_of others
  unfolding edges_by
  edges_by-append = flat_map-append (λ (job : Job). edges_in work (bytes_of job.segment.page) job) some others

-- the pages are those of the site
told-bytes : (image : Option (List (List ℕ))) (pages : List (List ℕ)) (page : ℕ) (bytes : List ℕ) → image ≡ Some pages → IsPageOf image page bytes
    → slice_get pages page ≡ Some bytes
told-bytes image pages page bytes same own = subst (λ (told : Option (List (List ℕ))). IsPageOf told page bytes) same own

module _ (site : Site) (work : Work) (page : ℕ) (bytes : List ℕ) (own : IsPageOf site.image page bytes) where
  -- with what was run before the jobs of a page were run
  were_run-page : (jobs before : List Job) (mails_before : List Mail) (least bad both : Option BadEdge)
      → IsLeastBad work.n (edges_of work bytes (filter (is_on page) jobs)) bad → Joins least bad both → WereRun site work before mails_before least
      → WereRun site work (before ++ filter (is_on page) jobs) (mails_before ++ messages_of work bytes (filter (is_on page) jobs)) both
  were_run-page jobs before mails_before least bad both bad_here joins ran =
      let here = filter (is_on page) jobs in
      record {
        all_sent = λ none.
            let early = ran.all_sent (joins-none_left least bad both joins none) in
            let late = messages-all_sent work bytes here (subst (IsLeastBad work.n (edges_of work bytes here)) (joins-none_right least bad both joins none) bad_here) in
            omega (arith, early, late, length-append mails_before (messages_of work bytes here), sum_by-append (entry_count work) before here);
        messages = λ pages told.
            let mine = page-mails work pages page bytes (told-bytes site.image pages page bytes told own) jobs in
            subst (λ (mails : List Mail). IsPermutation mails (mails_before ++ messages_of work bytes here))
            (sym (mails_by-append work (told_page pages) before here ∙ ap (λ (mails : List Mail). mails_by work (told_page pages) before ++ mails) mine))
            (IsPermutation-append (mails_by work (told_page pages) before) mails_before (messages_of work bytes here) (messages_of work bytes here)
            (ran.messages pages told) (IsPermutation-refl (messages_of work bytes here)));
        bad = λ pages told.
            let mine = page-edges work pages page bytes (told-bytes site.image pages page bytes told own) jobs in
            subst (λ (edges : List BadEdge). IsLeastBad work.n edges both)
            (sym (edges_by-append work (told_page pages) before here ∙ ap (λ (edges : List BadEdge). edges_by work (told_page pages) before ++ edges) mine))
            (joins work.n (edges_by work (told_page pages) before) (edges_of work bytes here) (ran.bad pages told) bad_here);
      }

  -- room was made, and the jobs of a page were run
  pub went_on-page : (outs ins : List Job) (least bad both : Option BadEdge) (old roomy new : Sending) (counted counted_then : ℕ)
      → Sends old roomy [] → Sends roomy new (messages_of work bytes (filter (is_on page) (outs ++ ins)))
      → counted_then ≡ counted + length (messages_of work bytes (filter (is_on page) (outs ++ ins)))
      → IsLeastBad work.n (edges_of work bytes (filter (is_on page) (outs ++ ins))) bad → Joins least bad both
      → WentOn site work (record { jobs = outs ++ ins; least = least; outbox = old; entries = counted })
      (record { jobs = filter (is_elsewhere page) outs ++ filter (is_elsewhere page) ins; least = both; outbox = new; entries = counted_then })
  went_on-page outs ins least bad both old roomy new counted counted_then room sent rose bad_here joins = record {
    done = filter (is_on page) (outs ++ ins);
    mails = messages_of work bytes (filter (is_on page) (outs ++ ins));
    parts = parts-of_page page outs ins;
    sent = sends-more old roomy new [] (messages_of work bytes (filter (is_on page) (outs ++ ins))) room sent;
    counted = rose;
    few_sent = all_messages_few work bytes (filter (is_on page) (outs ++ ins));
    to_vertices = messages-to_vertices work bytes (filter (is_on page) (outs ++ ins));
    were_run = λ before mails_before ran. were_run-page (outs ++ ins) before mails_before least bad both bad_here joins ran;
  }

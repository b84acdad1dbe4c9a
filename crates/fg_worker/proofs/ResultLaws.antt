-- What comes of a block whose jobs were all run.
use Rattle.std.proofs.Common.{◌≡◌, ℕ, ◌+◌, ◌-◌, ◌*◌, ◌^◌, ◌<◌, ◌≤◌, inl, inr, true, false, Option, None, Some, List, [], ◌++◌, length, map, min, get_or, refl, subst, sym, ap, ◌∙◌, arith, IsPermutation, append-nil}
use Rattle.std.specs.Prelude.{All, find, is_some, sum}
use Rattle.std.specs.List.{Contains, range_with_len}
use Rattle.std.proofs.lemmas.Bool.{cases_lt}
use Rattle.std.proofs.lemmas.List.Elements.{All-nil}
use Rattle.std.proofs.lemmas.List.Sorted.{IsPermutation-refl, IsPermutation-sym, IsPermutation-trans, length_permutation, sum_by-IsPermutation}
use Rattle.std.proofs.lemmas.List.Sums.{get_or-le-sum_by, sum_by-append}
use Rattle.fg_base.specs.declared.plain.BadEdge.{BadEdge}
use Rattle.fg_base.specs.declared.plain.Dir.{Dir}
use Rattle.fg_base.specs.declared.plain.Dir.TheVariants.{Out, In}
use Rattle.fg_base.specs.declared.plain.Entry.{Entry}
use Rattle.fg_batch.specs.Outbox.{AreBatches, IsForItsPart, IsUnsent, mail_in}
use Rattle.fg_cache.proofs.CountLemmas.{contains_filter, filter_contains}
use Rattle.fg_cache.specs.Site.{asked_pages}
use Rattle.fg_image.proofs.EntryLaws.{length-entries_at}
use Rattle.fg_image.proofs.SpanLaws.{each_degree, few_degrees}
use Rattle.fg_image.specs.Lists.{begin_of}
use Rattle.fg_index.specs.ImageIndex.{degrees_in}
use Rattle.fg_model.specs.declared.mail.Mail.{Mail}
use Rattle.fg_model.specs.Graph.{row}
use Rattle.fg_model.specs.Iteration.{active_vertices, is_bad, state_at}
use Rattle.fg_part.specs.declared.part_map.PartMap.{PartMap}
use Rattle.fg_stripe.specs.Held.{page_of}
use Rattle.fg_task.specs.declared.block_result.BlockResult.{BlockResult}
use Rattle.fg_task.specs.declared.job.Job.{Job}
use Rattle.fg_task.specs.Blocks.{IsResult}
use Rattle.fg_task.specs.Book.{ArePagesOf, page_of_job}
use Rattle.fg_task.specs.Jobs.{entry_count}
use Rattle.fg_task.specs.Running.{entries_of}
use Rattle.fg_worker.specs.Beginning.{StandFor}
use Rattle.fg_task.specs.Block.{block_vertices, mail_of, needed_of}
use Rattle.fg_worker.specs.Desk.{IsDesk, Setting, active_in, blocks_of, graph_of, image_of, work_in}
use Rattle.fg_worker.specs.Jobs.{edges_by, mails_by}
use Rattle.fg_worker.specs.Visiting.{Moment, WentOn, WereRun, told_page}
use Rattle.fg_worker.specs.Visits.{needed_pages}
use Rattle.fg_worker.proofs.BatchLaws.{batches-all}
use Rattle.fg_worker.proofs.BegunLaws.{graph-n}
use Rattle.fg_worker.proofs.FirstLaws.{FewEntries, Rises, awake-rise, least-is_found, least-permuted}
use Rattle.fg_worker.proofs.JobsLaws.{row-is, row-none, rows_in}
use Rattle.fg_worker.proofs.ListLaws.{IsPermutation-flat_map}
use Rattle.fg_worker.proofs.NeededLaws.{edges-told, in_range, mails-told, needed-few, stands_in}

-- no list is long
pub few-in : (S : Setting) → IsDesk S → (dir : Dir) (v : ℕ) → length (row (rows_in dir (graph_of S)) v) ≤ 2 ^ 32
few-in S desk dir v =
    elim (cases_lt v (length S.index.outs)) [
      | inl below ↦
          let degrees : List ℕ = degrees_in S.index dir in
          let count : length (row (rows_in dir (graph_of S)) v) ≡ get_or degrees v 0 =
          ap (λ (entries : List Entry). length entries) (row-is S (image_of S.site.image) dir v below)
          ∙ length-entries_at S.index.weighted (image_of S.site.image) (begin_of S.layout S.index dir v) (get_or degrees v 0) in
          let within : v < length degrees = subst (λ (n : ℕ). v < n) (sym (each_degree S.layout S.index dir desk.fits)) below in
          let one : get_or degrees v 0 ≤ sum degrees = get_or-le-sum_by (λ (x : ℕ). x) degrees v 0 within in
          let all = few_degrees S.layout S.index dir desk.fits in
          omega (arith, count, one, all)
      | inr past ↦
          subst (λ (entries : List Entry). length entries ≤ 2 ^ 32) (sym (row-none S (image_of S.site.image) dir v past)) (omega arith)
    ]

few-entries : (S : Setting) → IsDesk S → FewEntries (graph_of S)
few-entries S desk = record { few_outs = few-in S desk Out; few_ins = few-in S desk In }

-- nothing was run
none-run : (S : Setting) → WereRun S.site (work_in S) [] [] None
unfolding mails_by edges_by
none-run S = record {
  all_sent = λ same. refl;
  messages = λ pages told. IsPermutation-refl [];
  bad = λ pages told. All-nil (λ edge. is_bad S.map.n edge ≡ false);
}

module _ (S : Setting) (desk : IsDesk S) (block : ℕ) where
  -- a block's active vertices are active
  active-among : (v : ℕ) → Contains (active_in S block) v → Contains (active_vertices S.rules S.phase S.states) v
  unfolding block_vertices
  active-among v among =
      let of = filter_contains (λ (u : ℕ). S.rules.wake S.phase (state_at S.states u)) (block_vertices S.map block) v among in
      let within = in_range _ _ v of.0 in
      let below : v < length S.states = omega (arith, within.0, within.1, desk.are_states.state_count) in
      contains_filter (λ (u : ℕ). S.rules.wake S.phase (state_at S.states u)) (range_with_len 0 (length S.states)) v
      (stands_in 0 (length S.states) v (omega arith) (omega (arith, below))) of.1

  pub pages-asked : (jobs : List Job) → StandFor S (active_in S block) jobs → (page : ℕ) → Contains (map page_of_job jobs) page
      → Contains (asked_pages S.site) page
  pages-asked jobs stand page among =
      let is = stand.needed page among in
      desk.asked page (record { vertex = is.vertex; is_one = active-among is.vertex is.is_one; is_for = is.is_for })

  needed-rise : Rises ((block * (2 ^ S.map.shift)) * 2 * 2 ^ 32) (needed_of S.rules (graph_of S) (active_in S block))
      ((block * (2 ^ S.map.shift) + min (2 ^ S.map.shift) (S.map.n - block * (2 ^ S.map.shift))) * 2 * 2 ^ 32)
  unfolding needed_of block_vertices
  needed-rise = awake-rise (graph_of S) (few-entries S desk) S.rules.need (λ (u : ℕ). S.rules.wake S.phase (state_at S.states u))
      (block * (2 ^ S.map.shift)) (min (2 ^ S.map.shift) (S.map.n - block * (2 ^ S.map.shift)))

  module _ (old new : Moment) (stand : StandFor S (active_in S block) old.jobs) (fresh : old.least ≡ None) (unsent : IsUnsent old.outbox)
      (same_map : old.outbox.map ≡ S.map) (went : WentOn S.site (work_in S) old new) where
    -- no more entries were counted than are needed
    entries-parted : entries_of (work_in S) went.done + entries_of (work_in S) new.jobs ≡ entries_of (work_in S) old.jobs
    entries-parted =
        sym (sum_by-append (entry_count (work_in S)) went.done new.jobs)
        ∙ sym (sum_by-IsPermutation (entry_count (work_in S)) (went.done ++ new.jobs) old.jobs went.parts)

    pub counted-few : new.entries ≤ old.entries + length (needed_of S.rules (graph_of S) (active_in S block))
    counted-few =
        let parts = entries-parted in
        let all = stand.entries in
        let few = went.few_sent in
        let counted = went.counted in
        omega (arith, parts, all, few, counted)

    module _ (ended : new.jobs ≡ []) where
      all-done : IsPermutation went.done old.jobs
      all-done =
          subst (λ (jobs : List Job). IsPermutation jobs old.jobs) (append-nil went.done)
          (subst (λ (jobs : List Job). IsPermutation (went.done ++ jobs) old.jobs) ended went.parts)

      ran : WereRun S.site (work_in S) went.done went.mails new.least
      ran = went.were_run [] [] (subst (λ (least : Option BadEdge). WereRun S.site (work_in S) [] [] least) (sym fresh) (none-run S))

      entries-done : entries_of (work_in S) went.done ≡ length (needed_of S.rules (graph_of S) (active_in S block))
      entries-done = sym (sum_by-IsPermutation (entry_count (work_in S)) went.done old.jobs all-done) ∙ stand.entries

      module _ (pages : List (List ℕ)) (told : S.site.image ≡ Some pages) where
        mails-by-told : mails_by (work_in S) (page_of (image_of S.site.image)) old.jobs ≡ mails_by (work_in S) (told_page pages) old.jobs
        mails-by-told =
            ap (λ (image : Option (List (List ℕ))). mails_by (work_in S) (page_of (image_of image)) old.jobs) told
            ∙ mails-told (work_in S) pages (desk.told pages told).whole old.jobs

        edges-by-told : edges_by (work_in S) (page_of (image_of S.site.image)) old.jobs ≡ edges_by (work_in S) (told_page pages) old.jobs
        edges-by-told =
            ap (λ (image : Option (List (List ℕ))). edges_by (work_in S) (page_of (image_of image)) old.jobs) told
            ∙ edges-told (work_in S) pages (desk.told pages told).whole old.jobs

        mails-sent : IsPermutation (mail_of S.rules (graph_of S) S.phase S.states (active_in S block)) went.mails
        unfolding mails_by
        mails-sent =
            IsPermutation-trans _ _ _
            (subst (λ (mails : List Mail). IsPermutation (mail_of S.rules (graph_of S) S.phase S.states (active_in S block)) mails) mails-by-told
            (stand.messages (image_of S.site.image)))
            (IsPermutation-trans _ _ _ (IsPermutation-flat_map _ old.jobs went.done (IsPermutation-sym went.done old.jobs all-done)) (ran.messages pages told))

        edges-met : IsPermutation (edges_by (work_in S) (told_page pages) went.done) (needed_of S.rules (graph_of S) (active_in S block))
        unfolding edges_by
        edges-met =
            IsPermutation-trans _ _ _ (IsPermutation-flat_map _ went.done old.jobs all-done)
            (IsPermutation-sym _ _ (subst (λ (edges : List BadEdge). IsPermutation (needed_of S.rules (graph_of S) (active_in S block)) edges) edges-by-told
            (stand.edges (image_of S.site.image))))

        bad-found : new.least ≡ find (is_bad (graph_of S).n) (needed_of S.rules (graph_of S) (active_in S block))
        bad-found =
            let same_n : S.map.n ≡ (graph_of S).n = desk.vertices ∙ sym (graph-n S (image_of S.site.image)) in
            least-is_found S.map.n _ _ (needed_of S.rules (graph_of S) (active_in S block)) new.least needed-rise
            (least-permuted S.map.n _ _ new.least edges-met (ran.bad pages told))
            ∙ ap (λ (n : ℕ). find (is_bad n) (needed_of S.rules (graph_of S) (active_in S block))) same_n

      module _ (active : ℕ) (result : BlockResult) (active_is : active ≡ length (active_in S block))
          (own : (result.block ≡ block) × (result.active ≡ active) × (result.bad ≡ new.least))
          (are : AreBatches new.outbox block result.batches.items)
          (sent : result.sent ≡ length (mail_in result.batches.items))
          (fits : All (λ (mail : Mail). mail.message < 2 ^ 64) (mail_in result.batches.items)) where
        batched : IsPermutation went.mails (mail_in result.batches.items)
        batched =
            batches-all old.outbox new.outbox went.mails block result.batches.items unsent went.sent are
            (subst (λ (n : ℕ). All (λ (mail : Mail). mail.target < n) went.mails) (sym (ap (λ (pmap : PartMap). pmap.n) same_map))
            went.to_vertices)

        pub sent-counted : result.sent ≡ length went.mails
        sent-counted = sent ∙ length_permutation went.mails (mail_in result.batches.items) batched

        pub block-result : IsResult (blocks_of S) block result
        block-result =
            let counted = sent-counted in
            let few = went.few_sent in
            let all = entries-done in
            record {
              own = own.0;
              cut = subst (λ (pmap : PartMap). All (IsForItsPart pmap) result.batches.items)
                  (went.sent.same_map ∙ same_map) are.fit;
              fits = fits;
              active = own.1 ∙ active_is;
              sent = sent;
              few_sent = omega (arith, counted, few, all);
              all_sent = λ none. counted ∙ ran.all_sent (sym own.2 ∙ none) ∙ all;
              bad = λ knows. own.2 ∙ by_image (λ (pages : List (List ℕ)) (told : S.site.image ≡ Some pages). bad-found pages told) S.site.image refl knows;
              messages = λ knows.
                  by_mails S.site.image refl knows;
            }
          where
            by_image : {X : Type 0} → ((pages : List (List ℕ)) → S.site.image ≡ Some pages → X) → (image : Option (List (List ℕ))) → S.site.image ≡ image → is_some image ≡ true → X
            by_image from None told knows = absurd (cc)
            by_image from (Some pages) told knows = from pages told

            by_mails : (image : Option (List (List ℕ))) → S.site.image ≡ image → is_some image ≡ true
                → IsPermutation (mail_of S.rules (graph_of S) S.phase S.states (active_in S block)) (mail_in result.batches.items)
            by_mails image told knows =
                by_image (λ (pages : List (List ℕ)) (told : S.site.image ≡ Some pages).
                IsPermutation-trans _ went.mails _ (mails-sent pages told) batched) image told knows

  -- each page that is needed was found
  pub visits-few : (jobs : List Job) (pages : List ℕ) → StandFor S (active_in S block) jobs → ArePagesOf jobs pages
      → length (needed_pages S.layout S.index S.rules.need (active_in S block)) ≤ length pages
  visits-few jobs pages stand are =
      needed-few S.layout S.index S.rules.need (active_in S block) pages (λ page is. are.all page (stand.all_needed page is))

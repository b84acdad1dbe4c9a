-- One more vertex has begun.
use Rattle.std.proofs.Common.{◌≡◌, ℕ, ◌+◌, ◌<◌, inl, inr, List, [], ◌∷◌, ◌++◌, length, map, refl, sym, ap, ap₂, ◌∙◌, subst, IsPermutation}
use Rattle.std.specs.Prelude.{filter}
use Rattle.std.specs.List.{Contains, flat_map}
use Rattle.std.proofs.lemmas.List.{append-nil, length-append, map-append}
use Rattle.std.proofs.lemmas.List.Elements.{Contains-append_cases, Contains-append_left, Contains-append_right, Contains-push, Contains-push_cases, filter-append}
use Rattle.std.proofs.lemmas.List.Sorted.{Contains-permutation, IsPermutation-append, IsPermutation-map, IsPermutation-refl, IsPermutation-sym, IsPermutation-trans, sum_by-IsPermutation}
use Rattle.std.proofs.lemmas.List.Sums.{sum_by-append}
use Rattle.fg_base.specs.declared.plain.BadEdge.{BadEdge}
use Rattle.fg_base.specs.declared.plain.Dir.TheVariants.{Out, In}
use Rattle.fg_base.specs.declared.plain.Need.{Need}
use Rattle.fg_base.specs.declared.plain.VState.{VState}
use Rattle.fg_image.specs.Lists.{graph_by}
use Rattle.fg_image.specs.Needed.{IsNeededBySome, IsNeededPage}
use Rattle.fg_model.specs.declared.graph.Graph.{Graph}
use Rattle.fg_model.specs.declared.mail.Mail.{Mail}
use Rattle.fg_model.specs.Iteration.{state_at}
use Rattle.fg_model.specs.Program.{Rules}
use Rattle.fg_model.specs.VertexRun.{edges_of, ran}
use Rattle.fg_stripe.specs.Held.{page_of}
use Rattle.fg_task.specs.declared.job.Job.{Job}
use Rattle.fg_task.specs.Book.{Book, jobs_of, page_of_job}
use Rattle.fg_task.specs.Jobs.{entry_count}
use Rattle.fg_task.specs.Running.{entries_of}
use Rattle.fg_worker.specs.Beginning.{AddsList, StandFor, job_on}
use Rattle.fg_task.specs.Block.{goes_to_one, mail_of, needed_of}
use Rattle.fg_worker.specs.Desk.{Setting, graph_of, work_in}
use Rattle.fg_worker.specs.Jobs.{edges_by, mails_by}
use Rattle.fg_worker.proofs.JobsLaws.{NeedJobs, edges_by-append, jobs-both, jobs-in, jobs-out, list-jobs, mails_by-append, sent-is}
use Rattle.fg_worker.proofs.ListLaws.{IsPermutation-between, IsPermutation-flat_map, flat_map-push}

-- what one vertex more needs and sends
needed-push : (P : Rules) (graph : Graph) (vertices : List ℕ) (v : ℕ) → needed_of P graph (vertices ++ v ∷ []) ≡ needed_of P graph vertices ++ edges_of P.need graph v
unfolding needed_of
needed-push P graph vertices v = flat_map-push (edges_of P.need graph) vertices v

mail-push : (P : Rules) (graph : Graph) (phase : ℕ) (states : List VState) (vertices : List ℕ) (v : ℕ)
    → mail_of P graph phase states (vertices ++ v ∷ [])
    ≡ mail_of P graph phase states vertices ++ filter (goes_to_one graph.n) (ran P graph phase v (state_at states v)).messages
unfolding mail_of
mail-push P graph phase states vertices v =
    ap (filter (goes_to_one graph.n)) (flat_map-push (λ (u : ℕ). (ran P graph phase u (state_at states u)).messages) vertices v)
    ∙ filter-append (goes_to_one graph.n) (flat_map (λ (u : ℕ). (ran P graph phase u (state_at states u)).messages) vertices)
    (ran P graph phase v (state_at states v)).messages

-- jobs in another order
mails-permuted : (S : Setting) (image : List ℕ) (xs ys : List Job) → IsPermutation xs ys
    → IsPermutation (mails_by (work_in S) (page_of image) xs) (mails_by (work_in S) (page_of image) ys)
unfolding mails_by
mails-permuted S image xs ys turned = IsPermutation-flat_map _ xs ys turned

pub edges-permuted : (S : Setting) (image : List ℕ) (xs ys : List Job) → IsPermutation xs ys
    → IsPermutation (edges_by (work_in S) (page_of image) xs) (edges_by (work_in S) (page_of image) ys)
unfolding edges_by
edges-permuted S image xs ys turned = IsPermutation-flat_map _ xs ys turned

pub graph-n : (S : Setting) (image : List ℕ) → (graph_by S.layout S.index image).n ≡ length S.index.outs
unfolding graph_by
graph-n S image = refl

module _ (S : Setting) (same_n : S.map.n ≡ length S.index.outs) (vertices : List ℕ) where
  -- the carry with which a vertex begins
  abbrev carry_of : ℕ → ℕ
  carry_of v = (S.rules.begin S.phase v (state_at S.states v)).1

  sent-messages : (v : ℕ) (jobs : List Job) → NeedJobs S S.rules.need v (carry_of v) jobs → (image : List ℕ)
      → mails_by (work_in S) (page_of image) jobs
      ≡ filter (goes_to_one (graph_by S.layout S.index image).n) (ran S.rules (graph_by S.layout S.index image) S.phase v (state_at S.states v)).messages
  sent-messages v jobs added image =
      let graph : Graph = graph_by S.layout S.index image in
      added.messages image ∙ sym (sent-is (work_in S) graph S.rules.need v (carry_of v))
      ∙ ap (λ (n : ℕ). filter (goes_to_one n) (ran S.rules graph S.phase v (state_at S.states v)).messages) (same_n ∙ sym (graph-n S image))

  pub stand-more : (v : ℕ) (jobs added all : List Job) → NeedJobs S S.rules.need v (carry_of v) added → IsPermutation (jobs ++ added) all
      → StandFor S vertices jobs → StandFor S (vertices ++ v ∷ []) all
  stand-more v jobs added all more turned stand =
      record { entries = entries; messages = messages; edges = edges; needed = needed; all_needed = all_needed }
    where
      entries : entries_of (work_in S) all ≡ length (needed_of S.rules (graph_of S) (vertices ++ v ∷ []))
      entries =
          sum_by-IsPermutation (entry_count (work_in S)) (jobs ++ added) all turned ∙ sum_by-append (entry_count (work_in S)) jobs added
          ∙ ap₂ (λ (a b : ℕ). a + b) stand.entries more.entries
          ∙ sym (length-append (needed_of S.rules (graph_of S) vertices) (edges_of S.rules.need (graph_of S) v))
          ∙ sym (ap (λ (edges : List BadEdge). length edges) (needed-push S.rules (graph_of S) vertices v))

      messages : (image : List ℕ)
          → IsPermutation (mail_of S.rules (graph_by S.layout S.index image) S.phase S.states (vertices ++ v ∷ [])) (mails_by (work_in S) (page_of image) all)
      messages image =
          let graph : Graph = graph_by S.layout S.index image in
          let before : List Mail = mail_of S.rules graph S.phase S.states vertices in
          let own : List Mail = filter (goes_to_one graph.n) (ran S.rules graph S.phase v (state_at S.states v)).messages in
          let old : List Mail = mails_by (work_in S) (page_of image) jobs in
          let late : List Mail = mails_by (work_in S) (page_of image) added in
          let joined : IsPermutation (before ++ own) (old ++ late) =
          IsPermutation-append before old own late (stand.messages image)
          (subst (λ (mails : List Mail). IsPermutation own mails) (sym (sent-messages v added more image)) (IsPermutation-refl own)) in
          subst (λ (mails : List Mail). IsPermutation mails (mails_by (work_in S) (page_of image) all)) (sym (mail-push S.rules graph S.phase S.states vertices v))
          (IsPermutation-trans (before ++ own) (old ++ late) (mails_by (work_in S) (page_of image) all) joined
          (subst (λ (mails : List Mail). IsPermutation mails (mails_by (work_in S) (page_of image) all)) (mails_by-append (work_in S) (page_of image) jobs added)
          (mails-permuted S image (jobs ++ added) all turned)))

      edges : (image : List ℕ)
          → IsPermutation (needed_of S.rules (graph_by S.layout S.index image) (vertices ++ v ∷ [])) (edges_by (work_in S) (page_of image) all)
      edges image =
          let graph : Graph = graph_by S.layout S.index image in
          let before : List BadEdge = needed_of S.rules graph vertices in
          let own : List BadEdge = edges_of S.rules.need graph v in
          let old : List BadEdge = edges_by (work_in S) (page_of image) jobs in
          let late : List BadEdge = edges_by (work_in S) (page_of image) added in
          let joined : IsPermutation (before ++ own) (old ++ late) =
          IsPermutation-append before old own late (stand.edges image)
          (subst (λ (es : List BadEdge). IsPermutation own es) (sym (more.edges image)) (IsPermutation-refl own)) in
          subst (λ (es : List BadEdge). IsPermutation es (edges_by (work_in S) (page_of image) all)) (sym (needed-push S.rules graph vertices v))
          (IsPermutation-trans (before ++ own) (old ++ late) (edges_by (work_in S) (page_of image) all) joined
          (subst (λ (es : List BadEdge). IsPermutation es (edges_by (work_in S) (page_of image) all)) (edges_by-append (work_in S) (page_of image) jobs added)
          (edges-permuted S image (jobs ++ added) all turned)))

      pages : IsPermutation (map page_of_job jobs ++ map page_of_job added) (map page_of_job all)
      pages =
          subst (λ (ps : List ℕ). IsPermutation ps (map page_of_job all)) (map-append page_of_job jobs added)
          (IsPermutation-map page_of_job (jobs ++ added) all turned)

      needed : (page : ℕ) → Contains (map page_of_job all) page → IsNeededBySome S.layout S.index S.rules.need (vertices ++ v ∷ []) page
      needed page among =
          elim (Contains-append_cases (map page_of_job jobs) (map page_of_job added) page
          (Contains-permutation _ _ page (IsPermutation-sym _ _ pages) among)) [
            | inl early ↦
                let is = stand.needed page early in
                record { vertex = is.vertex; is_one = Contains-append_left vertices (v ∷ []) is.vertex is.is_one; is_for = is.is_for }
            | inr late ↦ record { vertex = v; is_one = Contains-push vertices v; is_for = more.needed page late }
          ]

      all_needed : (page : ℕ) → IsNeededBySome S.layout S.index S.rules.need (vertices ++ v ∷ []) page → Contains (map page_of_job all) page
      all_needed page is =
          Contains-permutation _ _ page pages
          (elim (Contains-push_cases vertices v is.vertex is.is_one) [
            | inl early ↦ Contains-append_left (map page_of_job jobs) (map page_of_job added) page
                (stand.all_needed page (record { vertex = is.vertex; is_one = early; is_for = is.is_for }))
            | inr last ↦ Contains-append_right (map page_of_job jobs) (map page_of_job added) page (more.all_needed page (own-page page is last))
          ])
        where
          own-page : (page : ℕ) (is : IsNeededBySome S.layout S.index S.rules.need (vertices ++ v ∷ []) page) → v ≡ is.vertex
              → IsNeededPage S.layout S.index S.rules.need v page
          own-page page is last = subst (λ (u : ℕ). IsNeededPage S.layout S.index S.rules.need u page) (sym last) is.is_for

-- what the lists of a vertex added: jobs behind those on out-lists, and jobs behind those on in-lists
record ListsAdded {F : Type 0} (S : Setting) (need : Need) (v carry : ℕ) (old new : Book F) : Type 0 where
  outs : List Job
  ins : List Job
  behind : jobs_of new ≡ (old.outs ++ outs) ++ (old.ins ++ ins)
  are : NeedJobs S need v carry (outs ++ ins)

module _ {F : Type 0} (S : Setting) (v carry : ℕ) (below : v < length S.index.outs) (old mid new : Book F) where
  lists-by : (need : Need) → ((need ≡ Need.In → ⊥) → AddsList S.layout S.index Out v carry old mid) → (need ≡ Need.In → mid ≡ old)
      → ((need ≡ Need.Out → ⊥) → AddsList S.layout S.index In v carry mid new) → (need ≡ Need.Out → new ≡ mid) → ListsAdded S need v carry old new
  lists-by Need.Out first no_first last no_last =
      let adds = first (λ same. cc) in
      let outs : List Job = map (job_on v Out carry) adds.segments in
      record {
        outs = outs;
        ins = [];
        behind = ap (λ (b : Book F). jobs_of b) (no_last refl ∙ adds.one_each) ∙ ap (λ (l : List Job). (old.outs ++ outs) ++ l) (sym (append-nil old.ins));
        are = subst (λ (l : List Job). NeedJobs S Need.Out v carry l) (sym (append-nil outs))
            (jobs-out S v carry outs (list-jobs S Out v carry adds.segments below adds.are_parts));
      }
  lists-by Need.In first no_first last no_last =
      let adds = last (λ same. cc) in
      let ins : List Job = map (job_on v In carry) adds.segments in
      record {
        outs = [];
        ins = ins;
        behind = ap (λ (b : Book F). jobs_of b) adds.one_each
            ∙ ap (λ (b : Book F). b.outs ++ (b.ins ++ ins)) (no_first refl)
            ∙ ap (λ (l : List Job). l ++ (old.ins ++ ins)) (sym (append-nil old.outs));
        are = jobs-in S v carry ins (list-jobs S In v carry adds.segments below adds.are_parts);
      }
  lists-by Need.Both first no_first last no_last =
      let early = first (λ same. cc) in
      let late = last (λ same. cc) in
      let outs : List Job = map (job_on v Out carry) early.segments in
      let ins : List Job = map (job_on v In carry) late.segments in
      record {
        outs = outs;
        ins = ins;
        behind = ap (λ (b : Book F). jobs_of b) late.one_each ∙ ap (λ (b : Book F). b.outs ++ (b.ins ++ ins)) early.one_each;
        are = jobs-both S v carry outs ins (list-jobs S Out v carry early.segments below early.are_parts) (list-jobs S In v carry late.segments below late.are_parts);
      }

  pub lists-added : S.map.n ≡ length S.index.outs → carry ≡ (S.rules.begin S.phase v (state_at S.states v)).1
      → ((S.rules.need ≡ Need.In → ⊥) → AddsList S.layout S.index Out v carry old mid) → (S.rules.need ≡ Need.In → mid ≡ old)
      → ((S.rules.need ≡ Need.Out → ⊥) → AddsList S.layout S.index In v carry mid new) → (S.rules.need ≡ Need.Out → new ≡ mid)
      → (vertices : List ℕ) → StandFor S vertices (jobs_of old) → StandFor S (vertices ++ v ∷ []) (jobs_of new)
  lists-added same_n begun first no_first last no_last vertices stand =
      let added = lists-by S.rules.need first no_first last no_last in
      stand-more S same_n vertices v (jobs_of old) (added.outs ++ added.ins) (jobs_of new)
      (subst (λ (c : ℕ). NeedJobs S S.rules.need v c (added.outs ++ added.ins)) begun added.are)
      (subst (λ (l : List Job). IsPermutation (jobs_of old ++ (added.outs ++ added.ins)) l) (sym added.behind)
      (IsPermutation-between old.outs added.outs old.ins added.ins))
      stand

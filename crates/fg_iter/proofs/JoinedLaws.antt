-- The blocks with a mark, in order, come to the whole iteration.
use Rattle.std.proofs.Common.{◌≡◌, ℕ, ◌<◌, ◌≤◌, ◌^◌, Bool, false, None, List, [], map as each, length, ap, sym, ◌∙◌, arith}
use Rattle.std.proofs.lemmas.List.Concat.{length-flat_map}
use Rattle.std.specs.Prelude.{◌==◌, All, filter, find, slice_index_or}
use Rattle.std.specs.List.{flat_map, range_with_len, sum_by}
use Rattle.fg_base.specs.declared.plain.BadEdge.{BadEdge}
use Rattle.fg_crew.proofs.ListLaws.{sum_by-same}
use Rattle.fg_gather.specs.Marks.{AreMarks}
use Rattle.fg_iter.proofs.BlockLaws.{all_blocks, all_in_block, of_block}
use Rattle.fg_iter.proofs.GoingLaws.{each_goes}
use Rattle.fg_iter.proofs.ListLaws.{all_in_range, filter-flat_map, filter-none, filter-turned, find_pieces, flat_map-flat_map, flat_map-marked, sum_by-marked}
use Rattle.fg_task.specs.Block.{block_active, block_vertices, goes_to_one, mail_of, needed_of}
use Rattle.fg_iter.specs.Lists.{visits_by_blocks}
use Rattle.fg_iter.specs.Marked.{marked_blocks}
use Rattle.fg_iter.specs.Start.{Start, blocks_at}
use Rattle.fg_model.proofs.PlainLemmas.{few_active, few_needed}
use Rattle.fg_model.specs.declared.mail.Mail.{Mail}
use Rattle.fg_model.specs.Graph.{IsWithinLimits}
use Rattle.fg_model.specs.Iteration.{active_vertices, first_bad, is_bad, mail, needed, state_at}
use Rattle.fg_model.specs.VertexRun.{edges_of, ran}
use Rattle.fg_part.specs.PartMap.{block_of, block_total}
use Rattle.fg_wave.specs.Telling.{first_some}

-- an iteration that starts, the marks of its blocks, and the list of those with a mark
module _ (start : Start) (marks : List Bool) (right : AreMarks start.rules start.map start.phase start.states marks) (whole : length start.states ≡ start.map.n)
    (list : List ℕ) (all_marked : list ≡ marked_blocks marks) where
  abbrev awake : ℕ → Bool
  awake v = start.rules.wake start.phase (state_at start.states v)

  abbrev active : List ℕ
  active = active_vertices start.rules start.phase start.states

  abbrev active_in : ℕ → List ℕ
  active_in block = block_active start.rules start.phase start.states start.map block

  abbrev mark_at : ℕ → Bool
  mark_at block = slice_index_or marks block false

  -- a block without a mark has nobody awake
  none_active : (block : ℕ) → block < block_total start.map → mark_at block ≡ false → active_in block ≡ []
  none_active block below clear =
      filter-none awake (block_vertices start.map block) (all_in_block start.map (λ v. awake v ≡ false) block (λ v stands. (right.each block below).clear clear v stands))

  unmarked : All (λ block. mark_at block ≡ false → active_in block ≡ []) (range_with_len 0 (length marks))
  unmarked = all_in_range (λ block. mark_at block ≡ false → active_in block ≡ []) 0 (length marks)
      (λ block from below clear. none_active block (omega (arith, below, right.one_each)) clear)

  -- the active vertices of the listed blocks are all active vertices
  pub active_marked : flat_map active_in list ≡ active
  active_marked =
      ap (flat_map active_in) all_marked
      ∙ flat_map-marked active_in mark_at (range_with_len 0 (length marks)) unmarked
      ∙ sym (filter-flat_map awake (block_vertices start.map) (range_with_len 0 (length marks)))
      ∙ ap (filter awake) (all_blocks start.map (length marks) right.one_each ∙ ap (range_with_len 0) (sym whole))

  -- so are their needed entries
  pub needed_marked : flat_map (λ block. needed_of start.rules start.lists.graph (active_in block)) list ≡ needed start.rules start.lists.graph start.phase start.states
  unfolding needed needed_of
  needed_marked = sym (flat_map-flat_map (edges_of start.rules.need start.lists.graph) active_in list) ∙ ap (flat_map (edges_of start.rules.need start.lists.graph)) active_marked

  -- without a bad edge these go to vertices, each of them
  pub mail_marked : first_bad start.rules start.lists.graph start.phase start.states ≡ None
      → flat_map (blocks_at start).mail_of list ≡ mail start.rules start.lists.graph start.phase start.states
  unfolding first_bad mail mail_of needed
  mail_marked none =
      let sends : ℕ → List Mail = λ v. (ran start.rules start.lists.graph start.phase v (state_at start.states v)).messages in
      let goes : Mail → Bool = goes_to_one start.lists.graph.n in
      sym (filter-flat_map goes (λ block. flat_map sends (active_in block)) list)
      ∙ ap (filter goes) (sym (flat_map-flat_map sends active_in list) ∙ ap (flat_map sends) active_marked)
      ∙ each_goes start.rules start.lists.graph start.phase start.states active none

  -- the first bad edge of the first block that has one is the first of all
  pub bad_marked : first_some (each (blocks_at start).bad_of list) ≡ first_bad start.rules start.lists.graph start.phase start.states
  unfolding first_bad
  bad_marked =
      find_pieces (is_bad start.lists.graph.n) (λ block. needed_of start.rules start.lists.graph (active_in block)) list
      ∙ ap (find (is_bad start.lists.graph.n)) needed_marked

  -- both counts over the listed blocks, and that they are few
  pub active_sum : sum_by (blocks_at start).active_of list ≡ length active
  active_sum = sym (length-flat_map active_in list) ∙ ap (λ (l : List ℕ). length l) active_marked

  pub needed_sum : sum_by (blocks_at start).needed_of list ≡ length (needed start.rules start.lists.graph start.phase start.states)
  needed_sum =
      sym (length-flat_map (λ block. needed_of start.rules start.lists.graph (active_in block)) list) ∙ ap (λ (l : List BadEdge). length l) needed_marked

  pub active_few : sum_by (blocks_at start).active_of list ≤ 2 ^ 24
  active_few = omega (arith, active_sum, few_active start.rules start.phase start.states, whole, start.map.few_vertices)

  pub needed_few : IsWithinLimits start.lists.graph → start.map.n ≡ start.lists.graph.n → sum_by (blocks_at start).needed_of list ≤ 2 ^ 27
  needed_few limits vertices = omega (arith, needed_sum, few_needed start.rules start.lists.graph start.phase start.states limits (whole ∙ vertices))

  -- the pages of the listed blocks are those of all active vertices, block by block
  own_active : (block : ℕ) → block < block_total start.map → active_in block ≡ filter (λ v. block_of start.map v == block) active
  own_active block below =
      let own : ℕ → Bool = λ v. block_of start.map v == block in
      ap (filter awake) (sym (of_block start.map block below)) ∙ filter-turned awake own (range_with_len 0 start.map.n)
      ∙ ap (λ (k : ℕ). filter own (filter awake (range_with_len 0 k))) (sym whole)

  pub visits_marked : start.lists.visits start.rules [] ≡ 0 → sum_by (blocks_at start).visits_of list ≡ visits_by_blocks start.lists start.rules start.map active
  visits_marked none =
      let visits : List ℕ → ℕ = start.lists.visits start.rules in
      let of_own : ℕ → ℕ = λ block. visits (filter (λ v. block_of start.map v == block) active) in
      let row = range_with_len 0 (length marks) in
      ap (sum_by (blocks_at start).visits_of) all_marked
      ∙ sum_by-marked (blocks_at start).visits_of mark_at row (all_in_range (λ block. mark_at block ≡ false → (blocks_at start).visits_of block ≡ 0) 0 (length marks)
      (λ block from below clear. ap visits (none_active block (omega (arith, below, right.one_each)) clear) ∙ none))
      ∙ sum_by-same (blocks_at start).visits_of of_own row (all_in_range (λ block. (blocks_at start).visits_of block ≡ of_own block) 0 (length marks)
      (λ block from below. ap visits (own_active block (omega (arith, below, right.one_each)))))
      ∙ ap (λ (k : ℕ). sum_by of_own (range_with_len 0 k)) right.one_each

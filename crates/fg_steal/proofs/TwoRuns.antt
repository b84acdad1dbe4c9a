-- The two runs of each part hold each block of it once: draws from runs are draws of blocks.
use Rattle.std.proofs.Common.{◌≡◌, ℕ, ◌+◌, ◌-◌, ◌^◌, ◌<◌, ◌≤◌, ◌≢◌, ⊎_elim, List, [], ◌∷◌, ◌++◌, length, map, slice_index, refl, sym, ap, subst, ◌∙◌, arith, length-append}
use Rattle.std.proofs.lemmas.Bool.{cases_lt, cases_eq, lt-ltb, le-ltb}
use Rattle.std.proofs.lemmas.List.{length-map, get_or-map, get_or_append_left, get_or-append-add, get_or_past}
use Rattle.fg_steal.specs.declared.run.Run.{Run}
use Rattle.fg_steal.specs.declared.run.Run.TheVariants.{Near, Far}
use Rattle.fg_steal.specs.Claims.{times_drawn, EachOnce, AtMostOnce}
use Rattle.fg_steal.specs.Run.{near_length, far_length, run_lengths, run_length, run_of, block_at}
use Rattle.fg_steal.proofs.Times.{same_draw, other_part, other_block}
use Rattle.fg_steal.proofs.AllBlocks.{hits, times_cons}

pub near_within : (count : ℕ) → near_length count ≤ count
near_within count = omega arith

module _ (counts : List ℕ) where
  pub length-run_lengths : length (run_lengths counts) ≡ length counts + length counts
  unfolding run_lengths
  length-run_lengths = omega (arith, length-append (map near_length counts) (map far_length counts), length-map counts near_length, length-map counts far_length)

  pub near_at : (part : ℕ) → part < length counts → run_length counts part ≡ near_length (slice_index counts part)
  unfolding run_lengths
  near_at part within =
      get_or_append_left (map near_length counts) (map far_length counts) 0 part (omega (arith, length-map counts near_length))
      ∙ get_or-map near_length counts part 0 0 within

  far_run : (part : ℕ) → run_length counts (length counts + part) ≡ slice_index (map far_length counts) part
  unfolding run_lengths
  far_run part =
      ap (λ (n : ℕ). slice_index (map near_length counts ++ map far_length counts) (n + part)) (sym (length-map counts near_length))
      ∙ get_or-append-add (map near_length counts) (map far_length counts) part 0

  pub far_at : (part : ℕ) → part < length counts → run_length counts (length counts + part) ≡ far_length (slice_index counts part)
  far_at part within = far_run part ∙ get_or-map far_length counts part 0 0 within

  far_past : (part : ℕ) → length counts ≤ part → run_length counts (length counts + part) ≡ 0
  far_past part past = far_run part ∙ get_or_past (map far_length counts) part 0 (omega (arith, length-map counts far_length))

  abbrev near : ℕ → ℕ
  near part = near_length (slice_index counts part)

  near_past : (part : ℕ) → length counts ≤ part → near part ≡ 0
  near_past part past = omega (arith, get_or_past counts part 0 past, near_within (slice_index counts part))

  pub at_near : (part place : ℕ) → part < length counts → block_at counts (part, place) ≡ (part, place)
  at_near part place within = rw (lt-ltb part (length counts) within) refl

  at_far : (run place : ℕ) → length counts ≤ run → block_at counts (run, place) ≡ (run - length counts, near (run - length counts) + place)
  at_far run place past = rw (le-ltb run (length counts) past) refl

  pub at_far_of : (part place : ℕ) → block_at counts (length counts + part, place) ≡ (part, near part + place)
  at_far_of part place =
      let back : length counts + part - length counts ≡ part = omega arith in
      at_far (length counts + part) place (omega arith) ∙ ap (λ (p : ℕ). (p, near p + place)) back

  abbrev blocks : List (ℕ × ℕ) → List (ℕ × ℕ)
  blocks draws = map (block_at counts) draws

  -- a place of a far run counts for the block at it
  far_hits : (part j run place : ℕ) → length counts ≤ run → hits part (near part + j) (block_at counts (run, place)) ≡ hits (length counts + part) j (run, place)
  far_hits part j run place past = ap (hits part (near part + j)) (at_far run place past) ∙ ⊎_elim
      (λ (same : run ≡ length counts + part).
      let here : part ≡ run - length counts = omega arith in
      let moved : near part ≡ near (run - length counts) = ap near here in ⊎_elim
      (λ (level : place ≡ j). same_draw part (near part + j) (run - length counts) (near (run - length counts) + place) here (omega (arith, moved)) ∙ sym (same_draw (length counts + part) j run place (sym same) level))
      (λ (differ : place ≢ j). other_block part (near part + j) (run - length counts) (near (run - length counts) + place) here (λ level. differ (omega (arith, moved)))
      ∙ sym (other_block (length counts + part) j run place (sym same) differ))
      (cases_eq place j))
      (λ (differ : run ≢ length counts + part).
      other_part part (near part + j) (run - length counts) (near (run - length counts) + place) (λ same. differ (omega arith))
      ∙ sym (other_part (length counts + part) j run place (λ same. differ (sym same))))
      (cases_eq run (length counts + part))

  near_hits : (part k run place : ℕ) → run < length counts → hits part k (block_at counts (run, place)) ≡ hits part k (run, place)
  near_hits part k run place within = ap (hits part k) (at_near run place within)

  -- a block of the near run was drawn as often as its place
  pub times_near : (part k : ℕ) (draws : List (ℕ × ℕ)) → part < length counts → k < near part → times_drawn part k (blocks draws) ≡ times_drawn part k draws
  times_near part k [] within below = refl
  times_near part k (draw ∷ draws) within below =
      omega (arith, times_cons part k (block_at counts draw) (blocks draws), times_cons part k draw draws, times_near part k draws within below, one)
    where
      far : (run place : ℕ) → length counts ≤ run → hits part k (block_at counts (run, place)) ≡ 0
      far run place past = ap (hits part k) (at_far run place past) ∙ ⊎_elim
          (λ (same : part ≡ run - length counts). other_block part k (run - length counts) (near (run - length counts) + place) same (λ level. omega (arith, ap near same)))
          (λ (differ : part ≢ run - length counts). other_part part k (run - length counts) (near (run - length counts) + place) differ)
          (cases_eq part (run - length counts))

      one : hits part k (block_at counts draw) ≡ hits part k draw
      one = ⊎_elim
          (λ (small : draw.0 < length counts). near_hits part k draw.0 draw.1 small)
          (λ (past : length counts ≤ draw.0). far draw.0 draw.1 past ∙ sym (other_part part k draw.0 draw.1 (λ same. omega arith)))
          (cases_lt draw.0 (length counts))

  -- and one behind the near run as often as its place in either run
  pub times_far : (part j : ℕ) (draws : List (ℕ × ℕ)) → part < length counts
      → times_drawn part (near part + j) (blocks draws) ≡ times_drawn part (near part + j) draws + times_drawn (length counts + part) j draws
  times_far part j [] within = refl
  times_far part j (draw ∷ draws) within =
      let k : ℕ = near part + j in
      omega (arith, times_cons part k (block_at counts draw) (blocks draws), times_cons part k draw draws, times_cons (length counts + part) j draw draws, times_far part j draws within, one)
    where
      one : hits part (near part + j) (block_at counts draw) ≡ hits part (near part + j) draw + hits (length counts + part) j draw
      one = ⊎_elim
          (λ (small : draw.0 < length counts). omega (arith, near_hits part (near part + j) draw.0 draw.1 small, other_part (length counts + part) j draw.0 draw.1 (λ same. omega arith)))
          (λ (past : length counts ≤ draw.0). omega (arith, far_hits part j draw.0 draw.1 past, other_part part (near part + j) draw.0 draw.1 (λ same. omega arith)))
          (cases_lt draw.0 (length counts))

  times_past : (part j : ℕ) (draws : List (ℕ × ℕ)) → length counts ≤ part → times_drawn part (near part + j) (blocks draws) ≡ times_drawn (length counts + part) j draws
  times_past part j [] past = refl
  times_past part j (draw ∷ draws) past =
      omega (arith, times_cons part (near part + j) (block_at counts draw) (blocks draws), times_cons (length counts + part) j draw draws, times_past part j draws past, one)
    where
      one : hits part (near part + j) (block_at counts draw) ≡ hits (length counts + part) j draw
      one = ⊎_elim
          (λ (small : draw.0 < length counts). omega (arith, near_hits part (near part + j) draw.0 draw.1 small, other_part part (near part + j) draw.0 draw.1 (λ same. omega arith), other_part (length counts + part) j draw.0 draw.1 (λ same. omega arith)))
          (λ (far : length counts ≤ draw.0). far_hits part j draw.0 draw.1 far)
          (cases_lt draw.0 (length counts))

  -- where no place was drawn that isn't in its run
  module _ (draws : List (ℕ × ℕ)) (only : (run k : ℕ) → run_length counts run ≤ k → times_drawn run k draws ≡ 0) where
    times_behind : (part j k : ℕ) → part < length counts → near part + j ≡ k → times_drawn part k (blocks draws) ≡ times_drawn (length counts + part) j draws
    times_behind part j k within is =
        let at = times_far part j draws within in
        let none = only part (near part + j) (omega (arith, near_at part within)) in
        ap (λ (b : ℕ). times_drawn part b (blocks draws)) (sym is) ∙ omega (arith, at, none)

    times_nowhere : (part k : ℕ) → length counts ≤ part → times_drawn part k (blocks draws) ≡ times_drawn (length counts + part) k draws
    times_nowhere part k past =
        let is : near part + k ≡ k = omega (arith, near_past part past) in
        ap (λ (b : ℕ). times_drawn part b (blocks draws)) (sym is) ∙ times_past part k draws past

    no_other_block : (part k : ℕ) → slice_index counts part ≤ k → times_drawn part k (blocks draws) ≡ 0
    no_other_block part k over = ⊎_elim
        (λ (within : part < length counts).
        let small = near_within (slice_index counts part) in
        times_behind part (k - near part) k within (omega (arith, small)) ∙ only (length counts + part) (k - near part) (omega (arith, small, far_at part within)))
        (λ (past : length counts ≤ part). times_nowhere part k past ∙ only (length counts + part) k (omega (arith, far_past part past)))
        (cases_lt part (length counts))

    -- a place that wasn't drawn before is a block that wasn't
    pub new_block : (part k : ℕ) (run : Run) (place : ℕ) → part < length counts → place < run_length counts (run_of counts part run)
        → (part, k) ≡ block_at counts (run_of counts part run, place) → times_drawn (run_of counts part run) place draws ≡ 0 → times_drawn part k (blocks draws) ≡ 0
    new_block part k Near place within below at none =
        let same : k ≡ place = ap (λ (b : ℕ × ℕ). b.1) (at ∙ at_near part place within) in
        ap (λ (b : ℕ). times_drawn part b (blocks draws)) same ∙ times_near part place draws within (omega (arith, near_at part within)) ∙ none
    new_block part k Far place within below at none =
        let same : k ≡ near part + place = ap (λ (b : ℕ × ℕ). b.1) (at ∙ at_far_of part place) in
        times_behind part place k within (sym same) ∙ none

  -- draws that have each place of each run once have each block of each part once
  pub each_block : (draws : List (ℕ × ℕ)) → EachOnce (run_lengths counts) draws → EachOnce counts (blocks draws)
  each_block draws each = record { once = once; nothing_else = no_other_block draws each.nothing_else }
    where
      once : (part k : ℕ) → k < slice_index counts part → times_drawn part k (blocks draws) ≡ 1
      once part k below = ⊎_elim
          (λ (within : part < length counts). ⊎_elim
          (λ (small : k < near part). times_near part k draws within small ∙ each.once part k (omega (arith, near_at part within)))
          (λ (large : near part ≤ k). times_behind draws each.nothing_else part (k - near part) k within (omega arith)
          ∙ each.once (length counts + part) (k - near part) (omega (arith, far_at part within)))
          (cases_lt k (near part)))
          (λ (past : length counts ≤ part). absurd (omega (arith, get_or_past counts part 0 past)))
          (cases_lt part (length counts))

  pub blocks_at_most : (draws : List (ℕ × ℕ)) → AtMostOnce (run_lengths counts) draws → AtMostOnce counts (blocks draws)
  blocks_at_most draws most = record { once = once; nothing_else = no_other_block draws most.nothing_else }
    where
      once : (part k : ℕ) → times_drawn part k (blocks draws) ≤ 1
      once part k = ⊎_elim
          (λ (within : part < length counts). ⊎_elim
          (λ (small : k < near part). omega (arith, times_near part k draws within small, most.once part k))
          (λ (large : near part ≤ k). omega (arith, times_behind draws most.nothing_else part (k - near part) k within (omega arith), most.once (length counts + part) (k - near part)))
          (cases_lt k (near part)))
          (λ (past : length counts ≤ part). omega (arith, times_nowhere draws most.nothing_else part k past, most.once (length counts + part) k))
          (cases_lt part (length counts))

  pub run_within : (part : ℕ) (run : Run) → part < length counts → run_of counts part run < length (run_lengths counts)
  run_within part Near within = omega (arith, length-run_lengths)
  run_within part Far within = omega (arith, length-run_lengths)

  -- what the code's two cases are
  pub block_near : (part place : ℕ) → part < length counts → place < run_length counts part → (place < slice_index counts part) × (place < near part)
  block_near part place within below = (omega (arith, near_at part within, near_within (slice_index counts part)), omega (arith, near_at part within))

  pub block_far : (part place length_of : ℕ) → part < length counts → length_of ≡ run_length counts part → place < run_length counts (length counts + part)
      → (block_at counts (length counts + part, place) ≡ (part, length_of + place)) × (length_of + place < slice_index counts part) × (near part ≤ length_of + place)
  block_far part place length_of within is below =
      let near_is : length_of ≡ near part = is ∙ near_at part within in
      let far_is = far_at part within in
      let small = near_within (slice_index counts part) in
      (at_far_of part place ∙ ap (λ (n : ℕ). (part, n + place)) (sym near_is), omega (arith, near_is, far_is, small), omega (arith, near_is))

  pub few_in_runs : ((part : ℕ) → slice_index counts part < 2 ^ 32) → (run : ℕ) → run_length counts run < 2 ^ 32
  few_in_runs few run = ⊎_elim
      (λ (small : run < length counts). omega (arith, near_at run small, near_within (slice_index counts run), few run))
      (λ (past : length counts ≤ run).
      let part : ℕ = run - length counts in
      let same : length counts + part ≡ run = omega arith in
      subst (λ (r : ℕ). run_length counts r < 2 ^ 32) same (⊎_elim
      (λ (within : part < length counts). omega (arith, far_at part within, few part))
      (λ (none : length counts ≤ part). omega (arith, far_past part none))
      (cases_lt part (length counts))))
      (cases_lt run (length counts))

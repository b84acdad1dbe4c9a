-- The states of a run of vertices, block by block, and of all, run by run.
use Rattle.std.proofs.Common.{◌≡◌, ℕ, ◌+◌, ◌-◌, ◌*◌, ◌/◌, ◌%◌, ◌<◌, ◌≤◌, Bool, false, List, Option, length, get_or, take, drop, sym, ap, ap₂, ◌∙◌, inl, inr, arith}
use Rattle.std.proofs.Math.Nat.{mul_assoc}
use Rattle.std.proofs.lemmas.Bool.{cases_lt}
use Rattle.std.proofs.lemmas.List.{get_or-drop, get_or-take, length-drop, length-take}
use Rattle.std.proofs.lemmas.Nat.{div-add-mod', div-mul-add, mod-mul-add}
use Rattle.std.specs.Prelude.{if◌then◌else◌}
use borrow.Rule.Slice.PartMut.{put_mid}
use Rattle.fg_base.specs.declared.plain.VState.{VState}
use Rattle.fg_batch.specs.Inbox.{received}
use Rattle.fg_gather.proofs.PieceLaws.{length-piece, piece-before, piece-behind, piece-in}
use Rattle.fg_gather.specs.Arrivals.{came_to}
use Rattle.fg_gather.specs.Gather.{AreGathered, run_state}
use Rattle.fg_model.specs.Iteration.{own_state, state_at}
use Rattle.fg_model.specs.Program.{Rules}
use Rattle.fg_part.specs.declared.part_map.PartMap.{PartMap}
use Rattle.fg_part.specs.PartMap.{block_of, block_size}

abbrev blank : VState
blank = record { a = 0; b = 0; c = 0 }

-- what begins a run begins a block
pub multiple : (start m size whole : ℕ) → size ≡ whole → 0 < whole → start % (m * size) ≡ 0 → start % whole ≡ 0
multiple start m size whole is some none =
    let q = start / (m * size) in
    let all : q * (m * size) + start % (m * size) ≡ start = div-add-mod' start (m * size) in
    let there : start ≡ q * (m * size) = omega (arith, all, none) in
    let turned : start ≡ q * m * whole + 0 = omega (arith, there ∙ sym (mul_assoc q m size) ∙ ap (λ (w : ℕ). q * m * w) is) in
    ap (λ (x : ℕ). x % whole) turned ∙ mod-mul-add (q * m) whole 0 some

module _ (P : Rules) (map : PartMap) (phase : ℕ) (parts : List (List (Option ℕ))) (marks : List Bool) where
  -- the state that the vertex v gets
  abbrev gets : ℕ → VState → VState
  gets v s = received P (came_to map parts v) (run_state P map phase marks v s)

  pub block-gathered : (first block : ℕ) (old middle new : List VState) (mark : Bool) → block ≡ block_of map first → first % block_size map ≡ 0 → length old ≤ block_size map
      → mark ≡ get_or marks block false → length middle ≡ length old → length new ≡ length middle
      → ((k : ℕ) → k < length old → state_at middle k ≡ (if mark then own_state P phase (first + k) (state_at old k) else state_at old k))
      → ((k : ℕ) → k < length middle → state_at new k ≡ received P (came_to map parts (block * block_size map + k)) (state_at middle k))
      → AreGathered P map phase parts marks first old new
  block-gathered first block old middle new mark is begins short marked kept long ran took = record {
    count = long ∙ kept;
    each = λ k below.
        let size = block_size map in
        let starts : block * size ≡ first = omega (arith, ap (λ (b : ℕ). b * size) is, div-add-mod' first size, begins) in
        let there : block * size + k ≡ first + k = omega (arith, starts) in
        let own : block_of map (first + k) ≡ block = ap (λ (v : ℕ). v / size) (sym there) ∙ div-mul-add block size k (omega (arith, below, short)) in
        let mark_is : mark ≡ get_or marks (block_of map (first + k)) false = marked ∙ ap (λ (b : ℕ). get_or marks b false) (sym own) in
        took k (omega (arith, below, kept))
        ∙ ap (λ (v : ℕ). received P (came_to map parts v) (state_at middle k)) there
        ∙ ap (received P (came_to map parts (first + k))) (ran k below ∙ ap (λ (m : Bool). if m then own_state P phase (first + k) (state_at old k) else state_at old k) mark_is);
  }

  pub chunk-gathered : (start offset k : ℕ) (before after old new : List VState) → AreGathered P map phase parts marks start before after → start + offset ≡ k
      → offset < length before → get_or before offset blank ≡ get_or old k blank → get_or after offset blank ≡ get_or new k blank → state_at new k ≡ gets (0 + k) (state_at old k)
  chunk-gathered start offset k before after old new gathered there inside was now =
      let from : start + offset ≡ 0 + k = omega (arith, there) in
      sym now ∙ gathered.each offset inside ∙ ap₂ gets from was

  module _ (first at end : ℕ) (old now piece : List VState) (count : length now ≡ length old) (on : at ≤ end) (inside : end ≤ length old)
      (done : (k : ℕ) → k < at → state_at now k ≡ gets (first + k) (state_at old k)) (ahead : (k : ℕ) → at ≤ k → state_at now k ≡ state_at old k)
      (gathered : AreGathered P map phase parts marks (first + at) (take (end - at) (drop at now)) piece) where
    abbrev next : List VState
    next = put_mid at (end - at) now piece

    size : length (take (end - at) (drop at now)) ≡ end - at
    size = omega (arith, length-take (end - at) (drop at now), length-drop at now, count, inside)

    whole : length piece ≡ end - at
    whole = gathered.count ∙ size

    fits : at + (end - at) ≤ length now
    fits = omega (arith, on, inside, count)

    pub run-count : length next ≡ length old
    run-count = length-piece at (end - at) now piece whole fits ∙ count

    pub run-done : (k : ℕ) → k < end → state_at next k ≡ gets (first + k) (state_at old k)
    run-done k below =
        elim (cases_lt k at) [
          | inl before ↦ piece-before at (end - at) now piece whole fits k blank before ∙ done k before
          | inr here ↦
              let j = k - at in
              let there : first + at + j ≡ first + k = omega (arith, here) in
              let spot : at + j ≡ k = omega (arith, here) in
              let was : state_at (take (end - at) (drop at now)) j ≡ state_at old k =
              get_or-take (end - at) (drop at now) j blank (omega (arith, here, below)) ∙ get_or-drop at now j blank ∙ ap (state_at now) spot ∙ ahead k here in
              piece-in at (end - at) now piece whole fits k blank here (omega (arith, here, below, on))
              ∙ gathered.each j (omega (arith, size, here, below)) ∙ ap₂ gets there was
        ]

    pub run-ahead : (k : ℕ) → end ≤ k → state_at next k ≡ state_at old k
    run-ahead k past = piece-behind at (end - at) now piece whole fits k blank (omega (arith, past, on)) ∙ ahead k (omega (arith, past, on))

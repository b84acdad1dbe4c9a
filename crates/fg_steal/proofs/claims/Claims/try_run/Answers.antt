use Rattle.std.proofs.Common.{◌≡◌, ℕ, ◌<◌, ◌≤◌, Bool, true, List, [], ◌∷◌, ◌++◌, length, map, slice_index, set, refl, sym, ap, subst, inl, inr, ◌∙◌, arith, length-set}
use Rattle.std.proofs.lemmas.List.{get_or_default, map_push}
use Rattle.std.specs.List.{Contains}
use Rattle.fg_steal.specs.declared.view.View.{View}
use Rattle.fg_steal.specs.Claims.{ClaimsValue, times_drawn}
use Rattle.fg_steal.specs.Run.{run_lengths, run_length, run_of, block_at, spent_parts}
use Rattle.fg_steal.specs.Seat.{SeatValue, IsMarked}
use Rattle.fg_steal.specs.Once.{drew, was_told, times_told}
use Rattle.fg_steal.proofs.Times.{never_told}
use Rattle.fg_steal.proofs.Spent.{marked_more}
use Rattle.fg_steal.proofs.TwoRuns.{run_within, new_block}
use Rattle.fg_steal.proofs.Steps.{draw_allowed}
use Rattle.fg_steal.proofs.claims.Claims.try_run.Goals as goal

-- a run's number is in range, and its word's length is what the code reads
runs_alike : (xs ys : List ℕ) → xs ≡ ys → length (run_lengths xs) ≡ length (run_lengths ys)
runs_alike xs ys same = ap (λ (l : List ℕ). length (run_lengths l)) same

pub index-requires : goal.index-requires
index-requires c =
    let v = c.seat.inside.place.me.0 in
    let n = c.args.self.now.counts in
    let counts : v.counts ≡ n = ap (λ (s : SeatValue). s.claims.counts) c.seat.view_is ∙ ap (λ (k : ClaimsValue). k.counts) c.requires.own in
    omega (arith, c.seat.inside.spent.ok, c.seat.invariant.2.0, runs_alike v.counts n counts, run_within n c.args.part c.args.run c.requires.part, c.word_of-word.ensures)

pub index_mut-requires : goal.index_mut-requires
index_mut-requires c =
    let v = c.seat.inside.place.me.0 in
    let n = c.args.self.now.counts in
    let counts : v.counts ≡ n = ap (λ (s : SeatValue). s.claims.counts) c.seat.view_is ∙ ap (λ (k : ClaimsValue). k.counts) c.requires.own in
    omega (arith, c.seat.inside.spent.ok, c.seat.invariant.2.0, runs_alike v.counts n counts, run_within n c.args.part c.args.run c.requires.part, c.word_of-word.ensures)

pub index-requires-2 : goal.index-requires-2
index-requires-2 c =
    let n = c.args.self.now.counts in
    let lengths : c.self.inside.lengths.items ≡ run_lengths n = c.self.invariant.1 ∙ ap (λ (k : ClaimsValue). run_lengths k.counts) c.self.view_is in
    omega (arith, c.self.inside.lengths.ok, ap length lengths, run_within n c.args.part c.args.run c.requires.part, c.word_of-word.ensures)

pub returns-then-index-clause-none : goal.returns-then-index-clause-none
returns-then-index-clause-none c =
    let v = c.seat.inside.place.me.0 in
    let n = c.args.self.now.counts in
    let word : c.word_of-word.result ≡ run_of n c.args.part c.args.run = c.word_of-word.ensures in
    let counts : v.counts ≡ n = ap (λ (s : SeatValue). s.claims.counts) c.seat.view_is ∙ ap (λ (k : ClaimsValue). k.counts) c.requires.own in
    let within : c.word_of-word.result < length c.seat.inside.spent.items = omega (arith, c.seat.invariant.2.0, runs_alike v.counts n counts, run_within n c.args.part c.args.run c.requires.part, word) in
    let found : Contains v.spent c.word_of-word.result = c.seat.invariant.2.1.set c.word_of-word.result c.index.result.now within (sym c.index.ensures ∙ c.if-index.true) in
    let spent : v.spent ≡ c.args.seat.spent = ap (λ (s : SeatValue). s.spent) c.seat.view_is in
    (refl, inl (subst (λ (l : List ℕ). Contains l (run_of n c.args.part c.args.run)) spent (subst (Contains v.spent) word found), refl))

pub returns-then-index-clause-told : goal.returns-then-index-clause-told
returns-then-index-clause-told c =
    let v = c.seat.inside.place.me.0 in
    let n = c.args.self.now.counts in
    let counts : v.counts ≡ n = ap (λ (s : SeatValue). s.claims.counts) c.seat.view_is ∙ ap (λ (k : ClaimsValue). k.counts) c.requires.own in
    let told : c.args.seat.told ≡ spent_parts n c.args.seat.spent =
    sym (ap (λ (s : SeatValue). s.told) c.seat.view_is) ∙ ap (λ (l : List ℕ). spent_parts l v.spent) counts ∙ ap (λ (s : SeatValue). spent_parts n s.spent) c.seat.view_is in
    (told, told)

pub fetch_add-number-requires : goal.fetch_add-number-requires
fetch_add-number-requires c =
    let place = c.seat.inside.place in
    let v = place.me.0 in
    let n = c.args.self.now.counts in
    let w = c.word_of-word.result in
    let key = c.self.inside.table.shared.key in
    let counts : v.counts ≡ n = ap (λ (s : SeatValue). s.claims.counts) c.seat.view_is ∙ ap (λ (k : ClaimsValue). k.counts) c.requires.own in
    let plan : c.self.inside.plan.counts.items ≡ n = ap (λ (k : ClaimsValue). k.counts) c.self.view_is in
    let key_counts : key.counts.items ≡ n = cc (c.self.invariant.0, plan) in
    let table : place.table_id ≡ c.self.inside.table.shared.table_id =
    ap (λ (s : SeatValue). s.claims.table) c.seat.view_is ∙ ap (λ (k : ClaimsValue). k.table) c.requires.own ∙ sym (ap (λ (k : ClaimsValue). k.table) c.self.view_is) in
    let inside : w < length (run_lengths n) = omega (arith, run_within n c.args.part c.args.run c.requires.part, c.word_of-word.ensures) in
    let flags : w < length c.seat.inside.spent.items = omega (arith, c.seat.invariant.2.0, runs_alike v.counts n counts, inside) in
    let words : w < c.self.inside.table.shared.table_id.words = omega (arith, c.self.invariant.2, ap length c.self.invariant.1, runs_alike c.self.inside.plan.counts.items n plan, inside) in
    let never = never_told w v.spent (c.seat.invariant.2.1.clear w c.index.result.now flags (sym c.index.ensures ∙ c.if-index.false)) in
    let fair : times_told w v < v.stands_for = omega (arith, never, c.seat.invariant.0) in
    let within : w < length (run_lengths key.counts.items) = omega (arith, runs_alike key.counts.items n key_counts, inside) in
    (table, words, draw_allowed key.counts.items key.seats _ place.id place.me w within fair)

-- a number past the run
module _ (v after : View) (run : ℕ) (flags : List Bool) (is : after ≡ was_told v run) (within : run < length flags) (stands : v.stands_for ≡ 1) (sizes : length flags ≡ length (run_lengths v.counts)) (marked : IsMarked flags v.spent) where
  stays_told : (after.stands_for ≡ 1) × (length (set flags run true) ≡ length (run_lengths after.counts)) × IsMarked (set flags run true) after.spent
  stays_told = (
    ap (λ (u : View). u.stands_for) is ∙ stands,
    length-set flags run true ∙ sizes ∙ sym (ap (λ (u : View). length (run_lengths u.counts)) is),
    subst (IsMarked (set flags run true)) (sym (ap (λ (u : View). u.spent) is)) (marked_more flags v.spent run within marked),
  )

pub invariant_of-seat : goal.invariant_of-seat
invariant_of-seat c =
    let v = c.seat.inside.place.me.0 in
    let n = c.args.self.now.counts in
    let w = c.word_of-word.result in
    let step = c.fetch_add-number.ensures.2 in
    let counts : v.counts ≡ n = ap (λ (s : SeatValue). s.claims.counts) c.seat.view_is ∙ ap (λ (k : ClaimsValue). k.counts) c.requires.own in
    let lengths : c.self.inside.lengths.items ≡ run_lengths v.counts = c.self.invariant.1 ∙ ap (λ (k : ClaimsValue). run_lengths k.counts) c.self.view_is ∙ ap run_lengths (sym counts) in
    let inside : w < length (run_lengths n) = omega (arith, run_within n c.args.part c.args.run c.requires.part, c.word_of-word.ensures) in
    let flags : w < length c.seat.inside.spent.items = omega (arith, c.seat.invariant.2.0, runs_alike v.counts n counts, inside) in
    let read : c.index-2.result.now ≡ run_length v.counts w =
    c.index-2.ensures ∙ get_or_default c.self.inside.lengths.items w c.index-2.result.now 0 (omega (arith, ap length lengths, runs_alike v.counts n counts, inside)) ∙ ap (λ (l : List ℕ). slice_index l w) lengths in
    let over : run_length v.counts w ≤ c.fetch_add-number.result = omega (arith, read, c.from.ensures, c.if-number-from.true) in
    let told = stays_told v c.fetch_add-number.new.seat.me.0 w c.seat.inside.spent.items (step.0.spent over) flags c.seat.invariant.0 c.seat.invariant.2.0 c.seat.invariant.2.1 in
    (told.0, step.1 ∙ c.seat.invariant.1, (told.1, told.2))

pub returns-then-number-from-clause-none : goal.returns-then-number-from-clause-none
returns-then-number-from-clause-none c =
    let v = c.seat.inside.place.me.0 in
    let n = c.args.self.now.counts in
    let w = c.word_of-word.result in
    let run = run_of n c.args.part c.args.run in
    let counts : v.counts ≡ n = ap (λ (s : SeatValue). s.claims.counts) c.seat.view_is ∙ ap (λ (k : ClaimsValue). k.counts) c.requires.own in
    let lengths : c.self.inside.lengths.items ≡ run_lengths v.counts = c.self.invariant.1 ∙ ap (λ (k : ClaimsValue). run_lengths k.counts) c.self.view_is ∙ ap run_lengths (sym counts) in
    let inside : w < length (run_lengths n) = omega (arith, run_within n c.args.part c.args.run c.requires.part, c.word_of-word.ensures) in
    let flags : w < length c.seat.inside.spent.items = omega (arith, c.seat.invariant.2.0, runs_alike v.counts n counts, inside) in
    let read : c.index-2.result.now ≡ run_length v.counts w =
    c.index-2.ensures ∙ get_or_default c.self.inside.lengths.items w c.index-2.result.now 0 (omega (arith, ap length lengths, runs_alike v.counts n counts, inside)) ∙ ap (λ (l : List ℕ). slice_index l w) lengths in
    let over : run_length v.counts w ≤ c.fetch_add-number.result = omega (arith, read, c.from.ensures, c.if-number-from.true) in
    let after : c.fetch_add-number.new.seat.me.0 ≡ was_told v w = c.fetch_add-number.ensures.2.0.spent over in
    let spent : v.spent ≡ c.args.seat.spent = ap (λ (s : SeatValue). s.spent) c.seat.view_is in
    let missing = c.seat.invariant.2.1.clear w c.index.result.now flags (sym c.index.ensures ∙ c.if-index.false) in (
      ap (λ (u : View). map (block_at u.counts) u.drawn) after ∙ ap (λ (s : SeatValue). s.drawn) c.seat.view_is,
      inr (
        λ found. missing (subst (Contains v.spent) (sym c.word_of-word.ensures) (subst (λ (l : List ℕ). Contains l run) (sym spent) found)),
        ap (λ (u : View). u.spent) after ∙ ap (λ (m : ℕ). m ∷ v.spent) c.word_of-word.ensures ∙ ap (λ (l : List ℕ). run ∷ l) spent,
      ),
    )

-- what the parts without a block are, by the spent runs
parts_of : (seat : SeatValue) (number : ℕ) (v after : View) (n : List ℕ) → v.counts ≡ n → seat.told ≡ spent_parts v.counts v.spent → v.spent ≡ seat.spent → after.counts ≡ v.counts
    → (seat.told ≡ spent_parts n seat.spent) × (spent_parts after.counts after.spent ≡ spent_parts n after.spent)
parts_of seat number v after n counts told spent same = (
  told ∙ ap (λ (l : List ℕ). spent_parts l v.spent) counts ∙ ap (spent_parts n) spent,
  ap (λ (l : List ℕ). spent_parts l after.spent) (same ∙ counts),
)

pub returns-then-number-from-clause-told : goal.returns-then-number-from-clause-told
returns-then-number-from-clause-told c =
    let v = c.seat.inside.place.me.0 in
    let n = c.args.self.now.counts in
    let w = c.word_of-word.result in
    let counts : v.counts ≡ n = ap (λ (s : SeatValue). s.claims.counts) c.seat.view_is ∙ ap (λ (k : ClaimsValue). k.counts) c.requires.own in
    let lengths : c.self.inside.lengths.items ≡ run_lengths v.counts = c.self.invariant.1 ∙ ap (λ (k : ClaimsValue). run_lengths k.counts) c.self.view_is ∙ ap run_lengths (sym counts) in
    let inside : w < length (run_lengths n) = omega (arith, run_within n c.args.part c.args.run c.requires.part, c.word_of-word.ensures) in
    let read : c.index-2.result.now ≡ run_length v.counts w =
    c.index-2.ensures ∙ get_or_default c.self.inside.lengths.items w c.index-2.result.now 0 (omega (arith, ap length lengths, runs_alike v.counts n counts, inside)) ∙ ap (λ (l : List ℕ). slice_index l w) lengths in
    let over : run_length v.counts w ≤ c.fetch_add-number.result = omega (arith, read, c.from.ensures, c.if-number-from.true) in
    parts_of c.args.seat c.args.seat.number v c.fetch_add-number.new.seat.me.0 n counts (sym (ap (λ (s : SeatValue). s.told) c.seat.view_is)) (ap (λ (s : SeatValue). s.spent) c.seat.view_is)
    (ap (λ (u : View). u.counts) (c.fetch_add-number.ensures.2.0.spent over))

-- a place in the run
module _ (v after : View) (run place : ℕ) (flags : List Bool) (is : after ≡ drew v run place) (stands : v.stands_for ≡ 1) (sizes : length flags ≡ length (run_lengths v.counts)) (marked : IsMarked flags v.spent) where
  stays_drawn : (after.stands_for ≡ 1) × (length flags ≡ length (run_lengths after.counts)) × IsMarked flags after.spent
  stays_drawn = (
    ap (λ (u : View). u.stands_for) is ∙ stands,
    sizes ∙ sym (ap (λ (u : View). length (run_lengths u.counts)) is),
    subst (IsMarked flags) (sym (ap (λ (u : View). u.spent) is)) marked,
  )

pub invariant_of-seat-else-number-from : goal.invariant_of-seat-else-number-from
invariant_of-seat-else-number-from c =
    let v = c.seat.inside.place.me.0 in
    let n = c.args.self.now.counts in
    let w = c.word_of-word.result in
    let step = c.fetch_add-number.ensures.2 in
    let counts : v.counts ≡ n = ap (λ (s : SeatValue). s.claims.counts) c.seat.view_is ∙ ap (λ (k : ClaimsValue). k.counts) c.requires.own in
    let lengths : c.self.inside.lengths.items ≡ run_lengths v.counts = c.self.invariant.1 ∙ ap (λ (k : ClaimsValue). run_lengths k.counts) c.self.view_is ∙ ap run_lengths (sym counts) in
    let inside : w < length (run_lengths n) = omega (arith, run_within n c.args.part c.args.run c.requires.part, c.word_of-word.ensures) in
    let read : c.index-2.result.now ≡ run_length v.counts w =
    c.index-2.ensures ∙ get_or_default c.self.inside.lengths.items w c.index-2.result.now 0 (omega (arith, ap length lengths, runs_alike v.counts n counts, inside)) ∙ ap (λ (l : List ℕ). slice_index l w) lengths in
    let below : c.fetch_add-number.result < run_length v.counts w = omega (arith, read, c.from.ensures, c.if-number-from.false) in
    let drawn = stays_drawn v c.fetch_add-number.new.seat.me.0 w c.fetch_add-number.result c.seat.inside.spent.items (step.0.place below) c.seat.invariant.0 c.seat.invariant.2.0 c.seat.invariant.2.1 in
    (drawn.0, step.1 ∙ c.seat.invariant.1, (drawn.1, drawn.2))

pub block_at-block-requires-clause-place : goal.block_at-block-requires-clause-place
block_at-block-requires-clause-place c =
    let n = c.args.self.now.counts in
    let w = c.word_of-word.result in
    let lengths : c.self.inside.lengths.items ≡ run_lengths n = c.self.invariant.1 ∙ ap (λ (k : ClaimsValue). run_lengths k.counts) c.self.view_is in
    let inside : w < length (run_lengths n) = omega (arith, run_within n c.args.part c.args.run c.requires.part, c.word_of-word.ensures) in
    let read : c.index-2.result.now ≡ run_length n w =
    c.index-2.ensures ∙ get_or_default c.self.inside.lengths.items w c.index-2.result.now 0 (omega (arith, ap length lengths, inside)) ∙ ap (λ (l : List ℕ). slice_index l w) lengths in
    subst (λ (m : ℕ). c.fetch_add-number.result < run_length n m) c.word_of-word.ensures (omega (arith, read, c.from.ensures, c.if-number-from.false))

pub returns-clause-new : goal.returns-clause-new
returns-clause-new c =
    let v = c.seat.inside.place.me.0 in
    let n = c.args.self.now.counts in
    let w = c.word_of-word.result in
    let number = c.fetch_add-number.result in
    let step = c.fetch_add-number.ensures.2.0 in
    let counts : v.counts ≡ n = ap (λ (s : SeatValue). s.claims.counts) c.seat.view_is ∙ ap (λ (k : ClaimsValue). k.counts) c.requires.own in
    let lengths : c.self.inside.lengths.items ≡ run_lengths n = c.self.invariant.1 ∙ ap (λ (k : ClaimsValue). run_lengths k.counts) c.self.view_is in
    let inside : w < length (run_lengths n) = omega (arith, run_within n c.args.part c.args.run c.requires.part, c.word_of-word.ensures) in
    let read : c.index-2.result.now ≡ run_length n w =
    c.index-2.ensures ∙ get_or_default c.self.inside.lengths.items w c.index-2.result.now 0 (omega (arith, ap length lengths, inside)) ∙ ap (λ (l : List ℕ). slice_index l w) lengths in
    let below : number < run_length n w = omega (arith, read, c.from.ensures, c.if-number-from.false) in
    let none : times_drawn w number v.drawn ≡ 0 = step.new (subst (λ (l : List ℕ). number < run_length l w) (sym counts) below) in
    let only = subst (λ (l : List ℕ). (other k : ℕ) → run_length l other ≤ k → times_drawn other k v.drawn ≡ 0) counts step.nothing_else in
    let drawn : map (block_at n) v.drawn ≡ c.args.seat.drawn = ap (λ (l : List ℕ). map (block_at l) v.drawn) (sym counts) ∙ ap (λ (s : SeatValue). s.drawn) c.seat.view_is in
    subst (λ (l : List (ℕ × ℕ)). times_drawn c.args.part c.block_at-block.result l ≡ 0) drawn
    (new_block n v.drawn only c.args.part c.block_at-block.result c.args.run number c.requires.part (subst (λ (m : ℕ). number < run_length n m) c.word_of-word.ensures below)
    c.block_at-block.ensures.at (subst (λ (m : ℕ). times_drawn m number v.drawn ≡ 0) c.word_of-word.ensures none))

pub returns-clause-drawn : goal.returns-clause-drawn
returns-clause-drawn c =
    let v = c.seat.inside.place.me.0 in
    let n = c.args.self.now.counts in
    let w = c.word_of-word.result in
    let number = c.fetch_add-number.result in
    let counts : v.counts ≡ n = ap (λ (s : SeatValue). s.claims.counts) c.seat.view_is ∙ ap (λ (k : ClaimsValue). k.counts) c.requires.own in
    let lengths : c.self.inside.lengths.items ≡ run_lengths v.counts = c.self.invariant.1 ∙ ap (λ (k : ClaimsValue). run_lengths k.counts) c.self.view_is ∙ ap run_lengths (sym counts) in
    let inside : w < length (run_lengths n) = omega (arith, run_within n c.args.part c.args.run c.requires.part, c.word_of-word.ensures) in
    let read : c.index-2.result.now ≡ run_length v.counts w =
    c.index-2.ensures ∙ get_or_default c.self.inside.lengths.items w c.index-2.result.now 0 (omega (arith, ap length lengths, runs_alike v.counts n counts, inside)) ∙ ap (λ (l : List ℕ). slice_index l w) lengths in
    let below : number < run_length v.counts w = omega (arith, read, c.from.ensures, c.if-number-from.false) in
    let after : c.fetch_add-number.new.seat.me.0 ≡ drew v w number = c.fetch_add-number.ensures.2.0.place below in
    let block : block_at v.counts (w, number) ≡ (c.args.part, c.block_at-block.result) =
    ap (λ (l : List ℕ). block_at l (w, number)) counts ∙ ap (λ (m : ℕ). block_at n (m, number)) c.word_of-word.ensures ∙ sym c.block_at-block.ensures.at in (
      ap (λ (u : View). map (block_at u.counts) u.drawn) after ∙ map_push (block_at v.counts) v.drawn (w, number)
          ∙ ap (λ (b : ℕ × ℕ). map (block_at v.counts) v.drawn ++ b ∷ []) block ∙ ap (λ (s : SeatValue). s.drawn ++ (c.args.part, c.block_at-block.result) ∷ []) c.seat.view_is,
      ap (λ (u : View). u.spent) after ∙ ap (λ (s : SeatValue). s.spent) c.seat.view_is,
    )

pub returns-clause-unspent : goal.returns-clause-unspent
returns-clause-unspent c =
    let v = c.seat.inside.place.me.0 in
    let n = c.args.self.now.counts in
    let w = c.word_of-word.result in
    let counts : v.counts ≡ n = ap (λ (s : SeatValue). s.claims.counts) c.seat.view_is ∙ ap (λ (k : ClaimsValue). k.counts) c.requires.own in
    let flags : w < length c.seat.inside.spent.items = omega (arith, c.seat.invariant.2.0, runs_alike v.counts n counts, run_within n c.args.part c.args.run c.requires.part, c.word_of-word.ensures) in
    let spent : v.spent ≡ c.args.seat.spent = ap (λ (s : SeatValue). s.spent) c.seat.view_is in
    λ found. c.seat.invariant.2.1.clear w c.index.result.now flags (sym c.index.ensures ∙ c.if-index.false)
    (subst (Contains v.spent) (sym c.word_of-word.ensures) (subst (λ (l : List ℕ). Contains l (run_of n c.args.part c.args.run)) (sym spent) found))

pub returns-clause-told : goal.returns-clause-told
returns-clause-told c =
    let v = c.seat.inside.place.me.0 in
    let n = c.args.self.now.counts in
    let w = c.word_of-word.result in
    let counts : v.counts ≡ n = ap (λ (s : SeatValue). s.claims.counts) c.seat.view_is ∙ ap (λ (k : ClaimsValue). k.counts) c.requires.own in
    let lengths : c.self.inside.lengths.items ≡ run_lengths v.counts = c.self.invariant.1 ∙ ap (λ (k : ClaimsValue). run_lengths k.counts) c.self.view_is ∙ ap run_lengths (sym counts) in
    let inside : w < length (run_lengths n) = omega (arith, run_within n c.args.part c.args.run c.requires.part, c.word_of-word.ensures) in
    let read : c.index-2.result.now ≡ run_length v.counts w =
    c.index-2.ensures ∙ get_or_default c.self.inside.lengths.items w c.index-2.result.now 0 (omega (arith, ap length lengths, runs_alike v.counts n counts, inside)) ∙ ap (λ (l : List ℕ). slice_index l w) lengths in
    let below : c.fetch_add-number.result < run_length v.counts w = omega (arith, read, c.from.ensures, c.if-number-from.false) in
    parts_of c.args.seat c.args.seat.number v c.fetch_add-number.new.seat.me.0 n counts (sym (ap (λ (s : SeatValue). s.told) c.seat.view_is)) (ap (λ (s : SeatValue). s.spent) c.seat.view_is)
    (ap (λ (u : View). u.counts) (c.fetch_add-number.ensures.2.0.place below))

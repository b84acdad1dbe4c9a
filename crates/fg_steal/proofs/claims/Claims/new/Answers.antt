use Rattle.std.proofs.Common.{◌≡◌, ℕ, ◌<◌, ◌≤◌, ◌^◌, ⊎_elim, List, length, get_or, replicate, slice_index, ap, sym, subst, ◌∙◌, arith}
use Rattle.std.proofs.lemmas.Bool.{cases_lt}
use Rattle.std.proofs.lemmas.List.{length-replicate, get_or-replicate, get_or_past}
use Rattle.fg_steal.specs.Run.{run_lengths}
use Rattle.fg_steal.proofs.TwoRuns.{few_in_runs}
use Rattle.fg_steal.proofs.Whole.{opens}
use Rattle.fg_steal.proofs.claims.Claims.new.Goals as goal

zeros : (n i : ℕ) → slice_index (replicate n 0) i ≡ 0
zeros n i = ⊎_elim
    (λ (below : i < n). get_or-replicate n i 0 0 below)
    (λ (past : n ≤ i). get_or_past (replicate n 0) i 0 (omega (arith, length-replicate {A = ℕ} n 0)))
    (cases_lt i n)

all_few : (xs : List ℕ) → ((i d : ℕ) → i < length xs → get_or xs i d < 2 ^ 32) → (i : ℕ) → slice_index xs i < 2 ^ 32
all_few xs few i = ⊎_elim
    (λ (below : i < length xs). few i 0 below)
    (λ (past : length xs ≤ i). omega (arith, get_or_past xs i 0 past))
    (cases_lt i (length xs))

pub of_words-requires : goal.of_words-requires
of_words-requires c =
    let n = c.in_ok-to_vec.field-0.items in
    let counts : n ≡ c.args.counts.now.items = c.in_ok-to_vec.ensures.items_if_clones_equal (λ x y same. same) ∙ c.deref-2.ensures.value in
    let lengths : c.in_ok-lengths.lengths.items ≡ run_lengths n = c.in_ok-lengths.ensures ∙ ap run_lengths (c.deref.ensures.value ∙ sym counts) in
    let words : c.deref-3.result.now ≡ replicate c.len.result 0 = c.deref-3.ensures.value ∙ c.in_ok-words.ensures.items_if_clones_equal (λ y same. same) in
    opens n c.args.seats c.deref-3.result.now
    (omega (arith, ap length words, length-replicate {A = ℕ} c.len.result 0, c.len.ensures, c.in_ok-lengths.lengths.ok, ap length lengths))
    (λ run. ap (λ (l : List ℕ). slice_index l run) words ∙ zeros c.len.result run)
    (few_in_runs n (subst (λ (l : List ℕ). (part : ℕ) → slice_index l part < 2 ^ 32) (sym counts) (all_few c.args.counts.now.items c.type_inv.counts)))
    (omega (arith, c.ranges.seats))

use Rattle.std.proofs.Common.{◌≡◌, ℕ, List, false, replicate, subst, sym, arith}
use Rattle.std.proofs.lemmas.List.{get_or-replicate, length-replicate}
use Rattle.fg_batch.specs.Bits.{is_in}
use Rattle.fg_batch.proofs.BitsLaws.{none_in_zeros}
use Rattle.fg_batch.proofs.bits.empty_set.Goals as goal

zeros : (n : ℕ) (k : ℕ) → is_in (replicate n 0) k ≡ false
zeros n = none_in_zeros (replicate n 0) (λ i below. get_or-replicate n i 0 0 (omega (arith, below, length-replicate {A = ℕ} n 0)))

pub returns-clause-none : goal.returns-clause-none
returns-clause-none c =
    let is : c.in_ok-vec.field-0.items ≡ replicate c.args.words 0 = c.in_ok-vec.ensures.items_if_clones_equal (λ y same. same) in
    subst (λ (xs : List ℕ). (k : ℕ) → is_in xs k ≡ false) (sym is) (zeros c.args.words)

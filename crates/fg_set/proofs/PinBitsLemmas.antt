-- A word's bits as a list, at any width.
use Rattle.std.proofs.Common.{◌≡◌, ◌≢◌, ◌==◌, ◌*◌, ◌%◌, ◌^◌, ◌<◌, ◌∙◌, ℕ, Bool, true, false, not, length, get_or, set, nat_eq, sym, ap, arith, bit_and, bit_or, inl, inr}
use mir.Val.{bits}
use Rattle.std.specs.Int.{Width, bit_at, bit_not}
use Rattle.std.specs.List.{list_any}
use Rattle.std.proofs.lemmas.Bool.{cases_eq, cases_Bool, false≢true, ne_eqb}
use Rattle.std.proofs.lemmas.Nat.{pow_pos}
use Rattle.std.proofs.lemmas.List.{same_lists, length-set, get_or-set_same, get_or-set_other}
use Rattle.std.proofs.lemmas.List.Folds.{list_any_at, list_any_none}
use Rattle.std.proofs.lemmas.List.FromFn.{length-map-range_with_len, get_or-map-range_with_len}
use Rattle.std.proofs.lemmas.Nat.Bits.{bit_at_set_same, bit_at_set_other, bit_at_clear_same, bit_at_clear_other, bit_at-zero, bit_at-lt, same_from_bits_below}
use Rattle.fg_set.specs.PinBits.{bits_of, is_any_set}

pub length-bits_of : (count n : ℕ) → length (bits_of count n) ≡ count
length-bits_of count n = length-map-range_with_len (λ i. bit_at n i == 1) 0 count

get_or-bits_of : (count n i : ℕ) (d : Bool) → i < count → get_or (bits_of count n) i d ≡ (bit_at n i == 1)
get_or-bits_of count n i d h = get_or-map-range_with_len (λ i. bit_at n i == 1) 0 count i i d h (omega arith)

-- two words whose bits differ at one place only
changed : (count m n k : ℕ) (b : Bool) → k < count → (bit_at m k == 1) ≡ b → ((i : ℕ) → i < count → i ≢ k → bit_at m i ≡ bit_at n i) → bits_of count m ≡ set (bits_of count n) k b
changed count m n k b within same others =
    same_lists _ _
    (length-bits_of count m ∙ sym (length-set (bits_of count n) k b ∙ length-bits_of count n))
    (λ i d h.
    let below : i < count = omega (arith, h, length-bits_of count m) in
    get_or-bits_of count m i d below ∙
    elim (cases_eq i k) [
      | inl e ↦ rw e (same ∙ sym (get_or-set_same (bits_of count n) k b d (omega (arith, length-bits_of count n))))
      | inr ne ↦ rw (others i below ne) (sym (get_or-set_other (bits_of count n) k i b d ne ∙ get_or-bits_of count n i d below))
    ])

pub bits_of-set : (w : Width) (n k : ℕ) → k < bits w → bits_of (bits w) (bit_or n (1 * 2 ^ k % 2 ^ bits w)) ≡ set (bits_of (bits w) n) k true
bits_of-set w n k within =
    changed (bits w) _ n k true within (rw (bit_at_set_same w n k within)) (λ i _ ne. bit_at_set_other w n k within i ne)

pub bits_of-clear : (w : Width) (n k : ℕ) → k < bits w → bits_of (bits w) (bit_and n (bit_not w (1 * 2 ^ k % 2 ^ bits w))) ≡ set (bits_of (bits w) n) k false
bits_of-clear w n k within =
    changed (bits w) _ n k false within (rw (bit_at_clear_same w n k within)) (λ i below ne. bit_at_clear_other w n k within i below ne)

-- a word none of whose bits is set is 0
no_bit : (count n : ℕ) → n < 2 ^ count → list_any (λ b. b) (bits_of count n) ≡ false → n ≡ 0
no_bit count n below none =
    same_from_bits_below count n 0 below (pow_pos count) (λ i h.
    elim (cases_eq (bit_at n i) 1) [
      | inl one ↦ absurd (false≢true (sym none ∙ list_any_at (λ b. b) (bits_of count n) i false (omega (arith, length-bits_of count n)) (get_or-bits_of count n i false h ∙ rw one)))
      | inr other ↦ let less = bit_at-lt n i in rw (bit_at-zero i) (omega arith)
    ])

some_bit : (count n : ℕ) → n < 2 ^ count → (n ≡ 0 → ⊥) → is_any_set (bits_of count n) ≡ not (nat_eq n 0)
some_bit count n below ne =
    elim (cases_Bool (list_any (λ b. b) (bits_of count n))) [
      | inl one ↦ one ∙ ap not (sym (ne_eqb n 0 ne))
      | inr none ↦ absurd (ne (no_bit count n below none))
    ]

-- a word has a bit set where it isn't 0
pub any-bits_of : (count n : ℕ) → n < 2 ^ count → is_any_set (bits_of count n) ≡ not (nat_eq n 0)
any-bits_of count n below =
    elim (cases_eq n 0) [
      | inl e ↦ rw e (list_any_none (λ b. b) (bits_of count 0) (λ k d h.
          get_or-bits_of count 0 k d (omega (arith, h, length-bits_of count 0)) ∙ rw (bit_at-zero k)))
      | inr ne ↦ some_bit count n below ne
    ]

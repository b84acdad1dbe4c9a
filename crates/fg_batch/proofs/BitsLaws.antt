-- Single bits of a set.
use Rattle.std.proofs.Common.{◌≡◌, ◌≢◌, ℕ, ◌+◌, ◌-◌, ◌*◌, ◌/◌, ◌%◌, ◌^◌, ◌<◌, ◌≤◌, ◌==◌, ◌||◌, Bool, true, false, List, length, get_or, set, take, bit_or, w64, subst, sym, ap, ◌∙◌, arith, eq-eqb, inl, inr, get_or-set_same, get_or-set_other, lt_of_not-le}
use Rattle.std.proofs.lemmas.Bool.{cases_eq, cases_lt, ne_eqb}
use Rattle.std.proofs.lemmas.List.{get_or-take, get_or_past}
use Rattle.std.proofs.lemmas.Grind.{get_or_default_zero}
use Rattle.std.proofs.lemmas.Nat.{div-add-mod', mod_below, shr-shr, shr_le}
use Rattle.std.proofs.lemmas.Nat.Bits.{bit_at-trailing_zeros, bit_at-zero, bit_at_above, bit_at_set_same, bit_at_set_other}
use Rattle.std.specs.Int.{bit_at, div_ceil, trailing_zeros}
use Rattle.fg_part.proofs.Ceilings.{below_ceiling}
use Rattle.fg_batch.specs.Bits.{AreFlagged, is_in}

module _ (words : List ℕ) (number : ℕ) (within : number < length words * 64) where
  abbrev written : ℕ
  written = bit_or (get_or words (number / 64) 0) (1 * 2 ^ (number % 64) % 18446744073709551616)

  abbrev after : List ℕ
  after = set words (number / 64) written

  there : number / 64 < length words
  there = omega arith

  low : number % 64 < 64
  low = omega arith

  put_same : is_in after number ≡ true
  unfolding is_in
  put_same =
      ap (λ (w : ℕ). bit_at w (number % 64) == 1) (get_or-set_same words (number / 64) written 0 there)
      ∙ ap (λ (b : ℕ). b == 1) (bit_at_set_same w64 (get_or words (number / 64) 0) (number % 64) low)

  put_other : (k : ℕ) → k ≢ number → is_in after k ≡ is_in words k
  unfolding is_in
  put_other k other =
      elim (cases_eq (k / 64) (number / 64)) [
        | inl same ↦
            let apart : k % 64 ≢ number % 64 = λ e. other (omega (arith, same, e)) in
            ap (λ (j : ℕ). bit_at (get_or after j 0) (k % 64) == 1) same
            ∙ ap (λ (w : ℕ). bit_at w (k % 64) == 1) (get_or-set_same words (number / 64) written 0 there)
            ∙ ap (λ (b : ℕ). b == 1) (bit_at_set_other w64 (get_or words (number / 64) 0) (number % 64) low (k % 64) apart)
            ∙ ap (λ (j : ℕ). bit_at (get_or words j 0) (k % 64) == 1) (sym same)
        | inr away ↦ ap (λ (w : ℕ). bit_at w (k % 64) == 1) (get_or-set_other words (number / 64) (k / 64) written 0 away)
      ]

  is_in-written : (k : ℕ) → is_in after k ≡ ((k == number) || is_in words k)
  is_in-written k =
      elim (cases_eq k number) [
        | inl same ↦
            ap (is_in after) same ∙ put_same ∙ sym (ap (λ (b : Bool). b || is_in words k) (eq-eqb k number same))
        | inr other ↦ put_other k other ∙ sym (ap (λ (b : Bool). b || is_in words k) (ne_eqb k number other))
      ]

pub is_in-put : (words : List ℕ) (number word : ℕ) → number < length words * 64 → word ≡ get_or words (number / 64) word → (k : ℕ)
    → is_in (set words (number / 64) (bit_or word (1 * 2 ^ (number % 64) % 18446744073709551616))) k ≡ ((k == number) || is_in words k)
is_in-put words number word within is k =
    let old : word ≡ get_or words (number / 64) 0 = is ∙ get_or_default_zero words (number / 64) word (omega (arith, within)) in
    ap (λ (w : ℕ). is_in (set words (number / 64) (bit_or w (1 * 2 ^ (number % 64) % 18446744073709551616))) k) old
    ∙ is_in-written words number within k

-- a bit of a word
pub is_in-bit : (words : List ℕ) (a i k : ℕ) → i < 64 → k ≡ a * 64 + i → is_in words k ≡ (bit_at (get_or words a 0) i == 1)
unfolding is_in
is_in-bit words a i k low is =
    let high : k / 64 ≡ a = omega (arith, low, is) in
    let rest : k % 64 ≡ i = omega (arith, low, is) in
    ap (λ (j : ℕ). bit_at (get_or words j 0) (k % 64) == 1) high ∙ ap (λ (j : ℕ). bit_at (get_or words a 0) j == 1) rest

-- no bit of a word is set that is 0
pub none_in : (words : List ℕ) (k : ℕ) → get_or words (k / 64) 0 ≡ 0 → is_in words k ≡ false
unfolding is_in
none_in words k empty = ap (λ (w : ℕ). bit_at w (k % 64) == 1) empty ∙ ap (λ (b : ℕ). b == 1) (bit_at-zero (k % 64))

pub none_in_zeros : (words : List ℕ) → ((i : ℕ) → i < length words → get_or words i 0 ≡ 0) → (k : ℕ) → is_in words k ≡ false
none_in_zeros words zeros k =
    elim (cases_lt (k / 64) (length words)) [
      | inl within ↦ none_in words k (zeros (k / 64) within)
      | inr past ↦ none_in words k (get_or_past words (k / 64) 0 past)
    ]

-- the lowest bit of what is left of a word above some bits
module _ (words : List ℕ) (a s : ℕ) (low : s < 64) where
  abbrev word : ℕ
  word = get_or words a 0

  abbrev left : ℕ
  left = word / 2 ^ s

  moved : (i : ℕ) → bit_at left i ≡ bit_at word (s + i)
  moved i = ap (λ (x : ℕ). x % 2) (shr-shr word s i)

  pub none_above : left ≡ 0 → (k : ℕ) → a * 64 + s ≤ k → k < a * 64 + 64 → is_in words k ≡ false
  none_above none k above below =
      let i = k - (a * 64 + s) in
      let there : s + i ≡ k - a * 64 = omega arith in
      is_in-bit words a (k - a * 64) k (omega arith) (omega arith)
      ∙ ap (λ (b : ℕ). b == 1) (ap (bit_at word) (sym there) ∙ sym (moved i) ∙ ap (λ (x : ℕ). bit_at x i) none ∙ bit_at-zero i)

  module _ (some : 0 < left) (fits : word < 18446744073709551616) where
    abbrev step : ℕ
    step = trailing_zeros w64 left

    left_fits : left < 18446744073709551616
    left_fits = omega (arith, fits, shr_le word s)

    is_set : bit_at word (s + step) ≡ 1
    is_set = sym (moved step) ∙ (bit_at-trailing_zeros w64 left some left_fits).1

    pub within_word : s + step < 64
    within_word = lt_of_not-le (λ over. let no : bit_at word (s + step) ≡ 0 = bit_at_above word 64 (s + step) fits over in omega (arith, no, is_set))

    pub lowest_in : is_in words (a * 64 + s + step) ≡ true
    lowest_in = is_in-bit words a (s + step) (a * 64 + s + step) within_word (omega arith) ∙ ap (λ (b : ℕ). b == 1) is_set

    pub none_below : (k : ℕ) → a * 64 + s ≤ k → k < a * 64 + s + step → is_in words k ≡ false
    none_below k above below =
        let i = k - (a * 64 + s) in
        let there : s + i ≡ k - a * 64 = omega arith in
        is_in-bit words a (k - a * 64) k (omega (arith, within_word)) (omega arith)
        ∙ ap (λ (b : ℕ). b == 1) (ap (bit_at word) (sym there) ∙ sym (moved i) ∙ (bit_at-trailing_zeros w64 left some left_fits).2 i (omega arith))

-- the same of a whole word
module _ (words : List ℕ) (a : ℕ) (some : 0 < get_or words a 0) (fits : get_or words a 0 < 18446744073709551616) where
  abbrev whole : ℕ
  whole = get_or words a 0

  halves : whole / 2 ^ 0 ≡ whole
  halves = omega arith

  begins : a * 64 + 0 ≡ a * 64
  begins = omega arith

  pub lowest_word : is_in words (a * 64 + trailing_zeros w64 whole) ≡ true
  lowest_word =
      subst (λ (x : ℕ). is_in words (a * 64 + trailing_zeros w64 x) ≡ true) halves
      (subst (λ (b : ℕ). is_in words (b + trailing_zeros w64 (whole / 2 ^ 0)) ≡ true) begins (lowest_in words a 0 (omega arith) (omega (arith, halves, some)) fits))

  pub none_below-word : (k : ℕ) → a * 64 ≤ k → k < a * 64 + trailing_zeros w64 whole → is_in words k ≡ false
  none_below-word k above below =
      let least : k < a * 64 + 0 + trailing_zeros w64 (whole / 2 ^ 0) =
      subst (λ (x : ℕ). k < a * 64 + 0 + trailing_zeros w64 x) (sym halves) (omega (arith, below)) in
      none_below words a 0 (omega arith) (omega (arith, halves, some)) fits k (omega (arith, above)) least

-- a word is 0 now
pub less_in : (words : List ℕ) (at k : ℕ) → at < length words → is_in words k ≡ false → is_in (set words at 0) k ≡ false
unfolding is_in
less_in words at k below none =
    elim (cases_eq (k / 64) at) [
      | inl same ↦ none_in (set words at 0) k (ap (λ (j : ℕ). get_or (set words at 0) j 0) same ∙ get_or-set_same words at 0 0 below)
      | inr other ↦ ap (λ (w : ℕ). bit_at w (k % 64) == 1) (get_or-set_other words at (k / 64) 0 0 other) ∙ none
    ]

-- the first words alone
pub is_in-take : (words : List ℕ) (n k : ℕ) → k / 64 < n → is_in (take n words) k ≡ is_in words k
unfolding is_in
is_in-take words n k below = ap (λ (w : ℕ). bit_at w (k % 64) == 1) (get_or-take n words (k / 64) 0 below)

-- a number is in the set now, and its block has its flag
pub flagged-put : (size at : ℕ) (flags : List Bool) (words now : List ℕ) → at / size < length flags → AreFlagged size flags words
    → ((k : ℕ) → is_in now k ≡ ((k == at) || is_in words k)) → AreFlagged size (set flags (at / size) true) now
flagged-put size at flags words now below flagged more k none =
    elim (cases_eq (k / size) (at / size)) [
      | inl same ↦
          let wrong : true ≡ false =
          sym (ap (λ (j : ℕ). get_or (set flags (at / size) true) j false) same ∙ get_or-set_same flags (at / size) true false below) ∙ none in
          absurd (cc)
      | inr other ↦
          let bare : get_or flags (k / size) false ≡ false = sym (get_or-set_other flags (at / size) (k / size) true false other) ∙ none in
          more k ∙ ap (λ (b : Bool). b || is_in words k) (ne_eqb k at (λ same. other (ap (λ (x : ℕ). x / size) same))) ∙ flagged k bare
    ]

-- the words of a block are wiped, and its flag is gone
pub flagged-wiped : (size block : ℕ) (flags : List Bool) (words now : List ℕ) → 0 < size → AreFlagged size flags words
    → ((k : ℕ) → block * size / 64 ≤ k / 64 → k / 64 < div_ceil (block * size + size) 64 → is_in now k ≡ false)
    → ((k : ℕ) → is_in words k ≡ false → is_in now k ≡ false) → AreFlagged size (set flags block false) now
flagged-wiped size block flags words now some flagged inside less k none =
    elim (cases_eq (k / size) block) [
      | inl same ↦
          let whole : block * size + k % size ≡ k = subst (λ (b : ℕ). b * size + k % size ≡ k) same (div-add-mod' k size) in
          let rest : k % size < size = mod_below k size some in
          let ends : k / 64 < div_ceil (block * size + size) 64 = below_ceiling (k / 64) (block * size + size) 64 (omega arith) (omega (arith, whole, rest)) in
          inside k (omega (arith, whole)) ends
      | inr other ↦ less k (flagged k (sym (get_or-set_other flags block (k / size) false false other) ∙ none))
    ]

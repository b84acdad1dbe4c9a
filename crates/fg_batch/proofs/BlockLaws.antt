-- What came to a block of a part, folded place by place.
use Rattle.std.proofs.Common.{◌≡◌, ◌≢◌, ℕ, ◌+◌, ◌-◌, ◌*◌, ◌/◌, ◌^◌, ◌<◌, ◌≤◌, Bool, false, List, Option, Some, None, length, get_or, take, lit<, refl, sym, ap, ◌∙◌, inl, inr, arith}
use Rattle.std.proofs.lemmas.Bool.{cases_lt}
use Rattle.std.proofs.lemmas.Grind.{div_ceil_times}
use Rattle.std.proofs.lemmas.List.{length-take-le}
use Rattle.std.proofs.lemmas.Nat.{div-mul-add, div_below, pow_pos, row_fits}
use Rattle.std.specs.Int.{div_ceil}
use Rattle.fg_batch.proofs.BitsLaws.{is_in-take}
use Rattle.fg_base.specs.declared.plain.VState.{VState}
use Rattle.fg_batch.proofs.HeldLaws.{held_none}
use Rattle.fg_batch.specs.Bits.{AreFlagged, is_in}
use Rattle.fg_batch.specs.Inbox.{IsInbox, held_by, held_in, received}
use Rattle.fg_model.specs.Iteration.{state_at}
use Rattle.fg_model.specs.Program.{Rules}
use Rattle.fg_part.specs.declared.part_map.PartMap.{PartMap}
use Rattle.fg_part.specs.PartMap.{block_size, blocks_in, places_in}

-- the states of the vertices at the places below this one have what came folded in, where the first state is that at `first`
pub record IsBlockFoldedBelow (P : Rules) (first at : ℕ) (held : List (Option ℕ)) (old now : List VState) : Type 0 where
  pub count : length now ≡ length old
  pub done : (k : ℕ) → k < length old → first + k < at → state_at now k ≡ received P (get_or held (first + k) None) (state_at old k)
  pub ahead : (k : ℕ) → at ≤ first + k → state_at now k ≡ state_at old k

module _ (P : Rules) (first : ℕ) (held : List (Option ℕ)) (old : List VState) where
  pub block-none : IsBlockFoldedBelow P first first held old old
  block-none = record {
    count = refl;
    done = λ k inside below. absurd (omega (arith, below));
    ahead = λ k above. refl;
  }

  -- places that hold nothing are passed over
  pub block-skip : (at next : ℕ) (now : List VState) → ((k : ℕ) → at ≤ k → k < next → get_or held k None ≡ None)
      → at ≤ next → IsBlockFoldedBelow P first at held old now → IsBlockFoldedBelow P first next held old now
  block-skip at next now none on folded = record {
    count = folded.count;
    done = λ k inside below.
        elim (cases_lt (first + k) at) [
          | inl before ↦ folded.done k inside before
          | inr here ↦ folded.ahead k here ∙ sym (ap (λ (o : Option ℕ). received P o (state_at old k)) (none (first + k) here below))
        ];
    ahead = λ k above. folded.ahead k (omega (arith, on, above));
  }

  -- the state at the place gets its number
  pub block-more : (at number : ℕ) (now next : List VState) → IsBlockFoldedBelow P first at held old now → first ≤ at → at < first + length old
      → get_or held at None ≡ Some number → length next ≡ length now
      → (at - first < length now → state_at next (at - first) ≡ P.receive (state_at now (at - first)) number)
      → ((u : ℕ) → u ≢ at - first → state_at next u ≡ state_at now u) → IsBlockFoldedBelow P first (at + 1) held old next
  block-more at number now next folded from inside holds long there kept = record {
    count = long ∙ folded.count;
    done = λ k within below.
        elim (cases_lt (first + k) at) [
          | inl before ↦ kept k (λ same. omega (arith, same, before)) ∙ folded.done k within before
          | inr here ↦
              let last : first + k ≡ at = omega (arith, here, below) in
              let same : k ≡ at - first = omega (arith, last) in
              ap (state_at next) same ∙ there (omega (arith, inside, from, folded.count))
              ∙ ap (λ (s : VState). P.receive s number) (ap (state_at now) (sym same) ∙ folded.ahead k here)
              ∙ sym (ap (λ (o : Option ℕ). received P o (state_at old k)) (ap (λ (j : ℕ). get_or held j None) last ∙ holds))
        ];
    ahead = λ k above. kept k (λ same. omega (arith, same, above, from)) ∙ folded.ahead k (omega (arith, above));
  }

-- nothing came to a block without its flag
pub none-unflagged : (map : PartMap) (numbers came : List ℕ) (flags : List Bool) (number : ℕ) → AreFlagged (block_size map) flags came
    → get_or flags number false ≡ false → (k : ℕ) → k < block_size map → held_in map (held_by numbers came) number k ≡ None
none-unflagged map numbers came flags number flagged bare k below =
    held_none numbers came (number * block_size map + k)
    (flagged (number * block_size map + k) (ap (λ (b : ℕ). get_or flags b false) (div-mul-add number (block_size map) k below) ∙ bare))

-- the block of a place of the part is one of the part's
pub block_within : (map : PartMap) (part place : ℕ) (flags : List Bool) → place < places_in map part → length flags ≡ blocks_in map part → place / 2 ^ map.shift < length flags
block_within map part place flags within count =
    let below : place / block_size map < blocks_in map part = div_below place (block_size map) (blocks_in map part) (pow_pos map.shift) within in
    omega (arith, below, count)

-- the first states of a block, and the words that have all its places
module _ (map : PartMap) (part number size len n : ℕ) (numbers came words : List ℕ) (flags : List Bool) (inbox : IsInbox map part numbers came flags)
    (below : number < blocks_in map part) (short : len ≤ block_size map) (is_size : size ≡ block_size map) (is_words : words ≡ came) (few : n ≡ div_ceil (number * size + len) 64) where
  pub block-inside : number * size + len ≤ length numbers
  block-inside =
      let row : number * block_size map + block_size map ≤ blocks_in map part * block_size map = row_fits number (block_size map) (blocks_in map part) (block_size map) below (omega arith) in
      let first : number * size ≡ number * block_size map = ap (λ (w : ℕ). number * w) is_size in
      omega (arith, row, first, short, inbox.count)

  words_enough : number * size + len ≤ length words * 64
  words_enough = omega (arith, block-inside, inbox.enough, ap (λ (xs : List ℕ). length xs) is_words)

  ends : (number * size + len ≤ n * 64) × (n * 64 < number * size + len + 64)
  ends =
      let both = div_ceil_times (number * size + len) 64 (lit< tt) in
      (omega (arith, both.0, few), omega (arith, both.1, few))

  pub cut-count : n ≡ length (take n words)
  cut-count = sym (length-take-le n words (omega (arith, ends.1, words_enough)))

  pub cut-covers : number * size + len ≤ length (take n words) * 64
  cut-covers = omega (arith, ends.0, cut-count)

  pub cut-same : (k : ℕ) → k < length (take n words) * 64 → is_in (take n words) k ≡ is_in came k
  cut-same k inside = is_in-take words n k (omega (arith, inside, cut-count)) ∙ ap (λ (xs : List ℕ). is_in xs k) is_words

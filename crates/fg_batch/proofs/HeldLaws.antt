-- The numbers at the places of a set.
use Rattle.std.proofs.Common.{◌≡◌, ℕ, ◌<◌, ◌==◌, ◌||◌, Bool, true, false, List, Option, Some, None, length, get_or, set, sym, ap, ◌∙◌, arith, eq-eqb, inl, inr, get_or-set_same, get_or-set_other, length-set}
use Rattle.std.proofs.lemmas.Bool.{cases_eq, cases_lt, ne_eqb}
use Rattle.std.proofs.lemmas.List.{get_or_default, get_or_past}
use Rattle.std.proofs.lemmas.List.FromFn.{get_or-map-range_with_len, length-map-range_with_len, fill_by_all}
use Rattle.std.specs.Prelude.{if◌then◌else◌}
use Rattle.fg_batch.specs.Bits.{is_in}
use Rattle.fg_batch.specs.Inbox.{AreEmpty, held_by}

abbrev place : List ℕ → List ℕ → ℕ → Option ℕ
place numbers came k = if is_in came k then Some (get_or numbers k 0) else None

pub length-held : (numbers came : List ℕ) → length (held_by numbers came) ≡ length numbers
length-held numbers came = length-map-range_with_len (place numbers came) 0 (length numbers)

pub held-get : (numbers came : List ℕ) (k : ℕ) → k < length numbers → get_or (held_by numbers came) k None ≡ place numbers came k
held-get numbers came k below = get_or-map-range_with_len (place numbers came) 0 (length numbers) k k None below (omega arith)

pub held-set : (numbers came now : List ℕ) (at number : ℕ) → at < length numbers
    → ((k : ℕ) → is_in now k ≡ ((k == at) || is_in came k))
    → held_by (set numbers at number) now ≡ set (held_by numbers came) at (Some number)
held-set numbers came now at number below more =
    sym (fill_by_all (place (set numbers at number) now) (set (held_by numbers came) at (Some number)) (length (set numbers at number)) None
    (length-set _ _ _ ∙ length-held numbers came ∙ sym (length-set _ _ _)) each)
  where
    each : (k : ℕ) → k < length (set numbers at number) → get_or (set (held_by numbers came) at (Some number)) k None ≡ place (set numbers at number) now k
    each k within =
        let inside : k < length numbers = omega (arith, within, length-set numbers at number) in
        elim (cases_eq k at) [
          | inl same ↦
              let there : at < length (held_by numbers came) = omega (arith, length-held numbers came) in
              let member : is_in now k ≡ true = more k ∙ ap (λ (b : Bool). b || is_in came k) (eq-eqb k at same) in
              let told : get_or (set numbers at number) k 0 ≡ number =
              ap (λ (j : ℕ). get_or (set numbers at number) j 0) same ∙ get_or-set_same numbers at number 0 below in
              ap (λ (j : ℕ). get_or (set (held_by numbers came) at (Some number)) j None) same
              ∙ get_or-set_same (held_by numbers came) at (Some number) None there
              ∙ sym (ap (λ (b : Bool). if b then Some (get_or (set numbers at number) k 0) else None) member ∙ ap Some told)
          | inr other ↦
              let member : is_in now k ≡ is_in came k = more k ∙ ap (λ (b : Bool). b || is_in came k) (ne_eqb k at other) in
              get_or-set_other (held_by numbers came) at k (Some number) None other
              ∙ held-get numbers came k inside
              ∙ sym (ap (λ (b : Bool). if b then Some (get_or (set numbers at number) k 0) else None) member
              ∙ ap (λ (x : ℕ). if is_in came k then Some x else None) (get_or-set_other numbers at k number 0 other))
        ]

-- where nothing is in the set, no place holds anything
pub none_held : (numbers came : List ℕ) → ((k : ℕ) → is_in came k ≡ false) → AreEmpty (held_by numbers came)
none_held numbers came none = λ k d below.
    let inside : k < length numbers = omega (arith, below, length-held numbers came) in
    get_or_default (held_by numbers came) k d None below ∙ held-get numbers came k inside
    ∙ ap (λ (b : Bool). if b then Some (get_or numbers k 0) else None) (none k)

-- a place that isn't in the set holds nothing, and one that is its number
pub held_none : (numbers came : List ℕ) (k : ℕ) → is_in came k ≡ false → get_or (held_by numbers came) k None ≡ None
held_none numbers came k none =
    elim (cases_lt k (length numbers)) [
      | inl within ↦ held-get numbers came k within ∙ ap (λ (b : Bool). if b then Some (get_or numbers k 0) else None) none
      | inr past ↦ get_or_past (held_by numbers came) k None (omega (arith, past, length-held numbers came))
    ]

pub held_some : (numbers came : List ℕ) (k : ℕ) → k < length numbers → is_in came k ≡ true → get_or (held_by numbers came) k None ≡ Some (get_or numbers k 0)
held_some numbers came k within some =
    held-get numbers came k within ∙ ap (λ (b : Bool). if b then Some (get_or numbers k 0) else None) some

-- One degree more keeps what the parts have to do with one another.
use Rattle.std.proofs.Common.{◌≡◌, ◌∙◌, ◌++◌, ◌∷◌, [], ℕ, ◌+◌, ◌*◌, ◌%◌, ◌^◌, ◌<◌, ◌≤◌, false, List, length, take, drop, get_or, cond, min, sum, refl, sym, ap, arith, ltb, eqb, inl, inr, below_more}
use Rattle.std.proofs.lemmas.Bool.{cases_Bool, ltb-true, ltb-false, ne_eqb}
use Rattle.std.proofs.lemmas.Bool.Decides.{eqb_tells}
use Rattle.std.proofs.lemmas.List.{take-append-le, take_all, drop_at, length_push, get_or_push, get_or_append_left}
use Rattle.fg_index.specs.declared.below.Below.{Below}
use Rattle.fg_index.specs.Degrees.{longs_in, next_degree, joined}
use Rattle.fg_index.specs.DegreesParts.{IsBelow, IsDegrees, nothing}
use Rattle.fg_index.proofs.JoinedLemmas.{longs_in-append, joined-nil, joined-one, joined-append, joined-length, joined-enough, sum-push}

pub none_is : IsDegrees [] [] [] 0
none_is = record {
  each_long = refl;
  total_is = ap sum (sym (joined-nil []));
  bounded = omega arith;
  enough = omega arith;
  no_more = omega arith;
  starts_are = λ j h. absurd (omega arith);
}

joined-push_short : (low long : List ℕ) (degree : ℕ) → degree < 255 → joined (low ++ degree ∷ []) long ≡ joined low long ++ degree ∷ []
joined-push_short low long degree short =
    let left = drop (longs_in low) long in
    let isnt : eqb degree 255 ≡ false = ne_eqb degree 255 (λ e. absurd (omega arith)) in
    let one : next_degree degree left ∷ [] ≡ degree ∷ [] = rw isnt refl in
    joined-append low (degree ∷ []) long ∙ ap (λ l. joined low long ++ l) (joined-one degree left ∙ one)

joined-push_long : (low long : List ℕ) (degree : ℕ) → length long ≡ longs_in low → joined (low ++ 255 ∷ []) (long ++ degree ∷ []) ≡ joined low long ++ degree ∷ []
joined-push_long low long degree each =
    let left = drop (longs_in low) (long ++ degree ∷ []) in
    let is : left ≡ degree ∷ [] = drop_at long (degree ∷ []) (longs_in low) each in
    let le : longs_in low ≤ length long = omega arith in
    joined-append low (255 ∷ []) (long ++ degree ∷ [])
    ∙ ap (λ l. l ++ joined (255 ∷ []) left) (joined-enough low long (degree ∷ []) le)
    ∙ ap (λ l. joined low long ++ l) (joined-one 255 left ∙ ap (λ l. next_degree 255 l ∷ []) is)

pub joined-push : (low long : List ℕ) (degree : ℕ) → length long ≡ longs_in low →
    joined (low ++ min degree 255 ∷ []) (cond (ltb degree 255) long (long ++ degree ∷ [])) ≡ joined low long ++ degree ∷ []
joined-push low long degree each =
    elim (cases_Bool (ltb degree 255)) [
      | inl short ↦
          let below : degree < 255 = ltb-true degree 255 short in
          let m : min degree 255 ≡ degree = omega arith in
          rw (short, m) (joined-push_short low long degree below)
      | inr isnt ↦
          let above : 255 ≤ degree = ltb-false degree 255 isnt in
          let m : min degree 255 ≡ 255 = omega arith in
          rw (isnt, m) (joined-push_long low long degree each)
    ]

longs-push : (low long : List ℕ) (degree : ℕ) → length long ≡ longs_in low →
    length (cond (ltb degree 255) long (long ++ degree ∷ [])) ≡ longs_in (low ++ min degree 255 ∷ [])
longs-push low long degree each =
    elim (cases_Bool (ltb degree 255)) [
      | inl short ↦
          let below : degree < 255 = ltb-true degree 255 short in
          let m : min degree 255 ≡ degree = omega arith in
          let isnt : eqb degree 255 ≡ false = ne_eqb degree 255 (λ e. absurd (omega arith)) in
          let none : longs_in (degree ∷ []) ≡ 0 = rw isnt refl in
          rw (short, m) (omega (arith, longs_in-append low (degree ∷ []), none, each))
      | inr isnt ↦
          let above : 255 ≤ degree = ltb-false degree 255 isnt in
          let m : min degree 255 ≡ 255 = omega arith in
          let one : longs_in (255 ∷ []) ≡ 1 = refl in
          rw (isnt, m) (omega (arith, longs_in-append low (255 ∷ []), one, each, length_push long degree))
    ]

-- what stands below a vertex stays with more vertices behind
below_kept : (low long more after tail : List ℕ) (vertex : ℕ) (below : Below) → vertex ≤ length low → joined (low ++ more) after ≡ joined low long ++ tail →
    IsBelow low long vertex below → IsBelow (low ++ more) after vertex below
below_kept low long more after tail vertex below le e is =
    let short : vertex ≤ length (joined low long) = omega (arith, joined-length low long, le) in
    record {
      degrees = is.degrees ∙ ap sum (sym (ap (take vertex) e ∙ take-append-le vertex (joined low long) tail short));
      longs = is.longs ∙ ap longs_in (sym (take-append-le vertex low more le));
    }

-- all vertices are below the next one
all_below : (low long : List ℕ) (total : ℕ) → length long ≡ longs_in low → total ≡ sum (joined low long) → IsBelow low long (length low) (record { degrees = total; longs = length long })
all_below low long total each total_is = record {
  degrees = total_is ∙ ap sum (sym (take_all (length low) (joined low long) (omega (arith, joined-length low long))));
  longs = each ∙ ap longs_in (sym (take_all (length low) low (omega arith)));
}

starts_with_one : (low long : List ℕ) (starts : List Below) (start : Below) →
    ((j : ℕ) → j < length starts → IsBelow low long (32 * j) (get_or starts j nothing)) → IsBelow low long (32 * length starts) start →
    (j : ℕ) → j < length (starts ++ start ∷ []) → IsBelow low long (32 * j) (get_or (starts ++ start ∷ []) j nothing)
starts_with_one low long starts start old new j h =
    let P : ℕ → Type 0 = λ k. IsBelow low long (32 * k) (get_or (starts ++ start ∷ []) k nothing) in
    let within : j < length starts + 1 = omega (arith, length_push starts start, h) in
    below_more P (length starts)
    (λ k lt. rw (get_or_append_left starts (start ∷ []) nothing k lt) (old k lt))
    (rw (get_or_push starts start nothing (length starts) refl) new) j within

pub push_is : (low long : List ℕ) (starts : List Below) (total degree : ℕ) → degree < 2 ^ 32 → IsDegrees low long starts total →
    IsDegrees (low ++ min degree 255 ∷ []) (cond (ltb degree 255) long (long ++ degree ∷ []))
    (cond (eqb (length low % 32) 0) (starts ++ record { degrees = total; longs = length long } ∷ []) starts) (total + degree)
push_is low long starts total degree fits is =
    let byte = min degree 255 in
    let after = cond (ltb degree 255) long (long ++ degree ∷ []) in
    let start : Below = record { degrees = total; longs = length long } in
    let e = joined-push low long degree is.each_long in
    let each = longs-push low long degree is.each_long in
    let sums : total + degree ≡ sum (joined (low ++ byte ∷ []) after) = ap (λ n. n + degree) is.total_is ∙ sym (ap sum e ∙ sum-push (joined low long) degree) in
    let few : total + degree ≤ length (low ++ byte ∷ []) * 2 ^ 32 = omega (arith, is.bounded, fits, length_push low byte) in
    let kept : (j : ℕ) → j < length starts → IsBelow (low ++ byte ∷ []) after (32 * j) (get_or starts j nothing) =
    λ j h. below_kept low long (byte ∷ []) after (degree ∷ []) (32 * j) (get_or starts j nothing) (omega (arith, is.no_more, h)) e (is.starts_are j h) in
    elim (eqb_tells (length low % 32) 0) [
      | inl begins ↦
          let full : length low ≡ 32 * length starts = omega (arith, begins.1, is.enough, is.no_more) in
          let here : IsBelow low long (32 * length starts) start = rw (← full) (all_below low long total is.each_long is.total_is) in
          let new : IsBelow (low ++ byte ∷ []) after (32 * length starts) start =
          below_kept low long (byte ∷ []) after (degree ∷ []) (32 * length starts) start (omega (arith, full)) e here in
          rw begins.0 (record {
            each_long = each;
            total_is = sums;
            bounded = few;
            enough = omega (arith, length_push low byte, length_push starts start, full);
            no_more = omega (arith, length_push low byte, length_push starts start, full);
            starts_are = starts_with_one (low ++ byte ∷ []) after starts start kept new;
          })
      | inr inside ↦
          let off : length low % 32 ≡ 0 → ⊥ = inside.1 in
          rw inside.0 (record {
            each_long = each;
            total_is = sums;
            bounded = few;
            enough = omega (arith, length_push low byte, is.enough, off);
            no_more = omega (arith, length_push low byte, is.no_more);
            starts_are = kept;
          })
    ]

-- the same, where each part is known by an equation
pub push_made : (low long low' long' : List ℕ) (starts starts' : List Below) (total degree byte next longs added : ℕ) → degree < 2 ^ 32 → IsDegrees low long starts total →
    byte ≡ min degree 255 → next ≡ length low → longs ≡ length long → added ≡ degree →
    low' ≡ low ++ byte ∷ [] → long' ≡ cond (ltb degree 255) long (long ++ degree ∷ []) →
    starts' ≡ cond (eqb (next % 32) 0) (starts ++ record { degrees = total; longs = longs } ∷ []) starts → IsDegrees low' long' starts' (total + added)
push_made low long low' long' starts starts' total degree byte next longs added fits is byte_is next_is longs_is added_is low_is long_is starts_is =
    rw (low_is, long_is, starts_is, byte_is, next_is, longs_is, added_is) (push_is low long starts total degree fits is)

-- A label's page is read as the label that was written.
use Rattle.std.proofs.Common.{◌≡◌, ℕ, zero, suc, ◌+◌, ◌-◌, ◌<◌, ◌≤◌, ◌^◌, Bool, true, false, ◌&&◌, nat_eq, Some, None, List, ◌++◌, length, take, drop, replicate, refl, sym, ap, ◌∙◌, arith, append_assoc, take_at, drop_at}
use Rattle.std.proofs.lemmas.Bool.{cond-true, cond-false}
use Rattle.std.proofs.lemmas.Grind.{common_steps}
use Rattle.std.proofs.lemmas.List.{take_rest, drop-replicate, drop-drop}
use Rattle.std.specs.Prelude.{if◌then◌else◌}
use Rattle.std.specs.List.{starts_with}
use Rattle.byteorder.specs.Endian.{little_bytes}
use Rattle.byteorder.specs.Numbers.{little_number-reads_back}
use Rattle.fg_stripe.specs.declared.label.Label.{Label}
use Rattle.fg_stripe.specs.Label.{is_blank, zeros, drive_magic, is_accepted, fields_of, is_label, label_of, label_bytes}
use borrow.Rule.Slice.PartMut.{put_mid}

-- what a write to all from a place on leaves
pub put-behind : (place n : ℕ) (xs ys new : List ℕ) → place ≤ length xs
    → new ≡ ys ++ drop n (take (length xs - place) (drop place xs))
    → put_mid place (length xs - place) xs new ≡ take place xs ++ (ys ++ drop (place + n) xs)
put-behind place n xs ys new within e = rw (e, take_rest xs place) (grind (arith, common_steps))

-- a number put behind the front
put-next : (was front rest bytes page : List ℕ) (place n : ℕ) → was ≡ front ++ rest → length front ≡ place
    → page ≡ take place was ++ (bytes ++ drop (place + n) was) → page ≡ (front ++ bytes) ++ drop n rest
put-next was front rest bytes page place n split ends e =
    e ∙ rw (split, take_at front rest place ends, ← drop-drop n place (front ++ rest), drop_at front rest place ends) (sym (append_assoc front bytes (drop n rest)))

drop-zeros : (m n : ℕ) → drop m (zeros n) ≡ zeros (n - m)
unfolding zeros
drop-zeros m n = drop-replicate m n 0

pub zeros-filled : (page : List ℕ) (n : ℕ) → page ≡ replicate n 0 → (m : ℕ) → n ≡ m → page ≡ zeros m
unfolding zeros
zeros-filled page n e m same = e ∙ ap (λ (k : ℕ). replicate k 0) same

is_blank-zeros : (n : ℕ) → is_blank (zeros n) ≡ true
unfolding zeros
is_blank-zeros zero = refl
is_blank-zeros (suc n) = is_blank-zeros n

-- the pages that the writes of a label leave, one by one
pub record Written (label : Label) (blank marked first second third fourth last : List ℕ) : Type 0 where
  pub blank_is : blank ≡ zeros 4096
  pub marked_is : marked ≡ drive_magic ++ drop 8 blank
  pub first_is : first ≡ take 8 marked ++ (little_bytes 4 label.drive ++ drop 12 marked)
  pub second_is : second ≡ take 12 first ++ (little_bytes 4 label.drives ++ drop 16 first)
  pub third_is : third ≡ take 16 second ++ (little_bytes 4 label.unit ++ drop 20 second)
  pub fourth_is : fourth ≡ take 20 third ++ (little_bytes 4 label.pages ++ drop 24 third)
  pub last_is : last ≡ take 24 fourth ++ (little_bytes 8 label.number ++ drop 32 fourth)

pub written : (label : Label) (blank marked first second third fourth last : List ℕ)
    → Written label blank marked first second third fourth last → last ≡ label_bytes label
unfolding label_bytes
written label blank marked first second third fourth last w =
    let m0 : marked ≡ drive_magic ++ zeros 4088 = w.marked_is ∙ ap (λ (l : List ℕ). drive_magic ++ l) (ap (drop 8) w.blank_is ∙ drop-zeros 8 4096) in
    let a = drive_magic ++ little_bytes 4 label.drive in
    let m1 : first ≡ a ++ zeros 4084 =
    put-next marked drive_magic (zeros 4088) (little_bytes 4 label.drive) first 8 4 m0 refl w.first_is ∙ ap (λ (l : List ℕ). a ++ l) (drop-zeros 4 4088) in
    let b = a ++ little_bytes 4 label.drives in
    let m2 : second ≡ b ++ zeros 4080 =
    put-next first a (zeros 4084) (little_bytes 4 label.drives) second 12 4 m1 refl w.second_is ∙ ap (λ (l : List ℕ). b ++ l) (drop-zeros 4 4084) in
    let d = b ++ little_bytes 4 label.unit in
    let m3 : third ≡ d ++ zeros 4076 =
    put-next second b (zeros 4080) (little_bytes 4 label.unit) third 16 4 m2 refl w.third_is ∙ ap (λ (l : List ℕ). d ++ l) (drop-zeros 4 4080) in
    let e = d ++ little_bytes 4 label.pages in
    let m4 : fourth ≡ e ++ zeros 4072 =
    put-next third d (zeros 4076) (little_bytes 4 label.pages) fourth 20 4 m3 refl w.fourth_is ∙ ap (λ (l : List ℕ). e ++ l) (drop-zeros 4 4076) in
    let f = e ++ little_bytes 8 label.number in
    put-next fourth e (zeros 4072) (little_bytes 8 label.number) last 24 8 m4 refl w.last_is ∙ ap (λ (l : List ℕ). f ++ l) (drop-zeros 8 4072)

-- the tests of a label, one by one
and-true : (b : Bool) → (b && true) ≡ b
and-true true = refl
and-true false = refl

chosen : (m b : Bool) (found label : Label) → m ≡ true → found ≡ label → b ≡ true
    → (if m && is_accepted found && b then Some found else None) ≡ (if is_accepted label then Some label else None)
chosen m b found label pm pf pb = rw (pm, pf, pb) (ap (λ (t : Bool). if t then Some label else None) (and-true (is_accepted label)))

all_true : (m a b : Bool) → m ≡ true → a ≡ true → b ≡ true → (m && a && b) ≡ true
all_true m a b pm pa pb = rw (pm, pa, pb) refl

middle_false : (m a b : Bool) → a ≡ false → (m && a && b) ≡ false
middle_false true a b pa = rw pa refl
middle_false false a b pa = refl

last_false : (m a b : Bool) → b ≡ false → (m && a && b) ≡ false
last_false m a b pb = rw pb (ends (m && a))
  where
    ends : (t : Bool) → (t && false) ≡ false
    ends true = refl
    ends false = refl

module _ (page : List ℕ) (label : Label) (same : label ≡ fields_of page) where
  pub found : starts_with nat_eq page drive_magic ≡ true → is_accepted label ≡ true → is_blank (drop 32 page) ≡ true → Some label ≡ label_of page
  found m a b =
      let t : is_label page ≡ true = all_true _ _ _ m (ap is_accepted (sym same) ∙ a) b in
      ap Some same ∙ sym (cond-true (is_label page) (Some (fields_of page)) None t)

  pub refused : is_accepted label ≡ false → None ≡ label_of page
  refused a =
      let t : is_label page ≡ false = middle_false (starts_with nat_eq page drive_magic) _ _ (ap is_accepted (sym same) ∙ a) in
      sym (cond-false (is_label page) (Some (fields_of page)) None t)

pub marred : (page : List ℕ) → is_blank (drop 32 page) ≡ false → None ≡ label_of page
marred page b =
    let t : is_label page ≡ false = last_false (starts_with nat_eq page drive_magic) (is_accepted (fields_of page)) _ b in
    sym (cond-false (is_label page) (Some (fields_of page)) None t)

label_from : (label : Label) (a b c d e : ℕ) → a ≡ label.drive → b ≡ label.drives → c ≡ label.unit → d ≡ label.pages → e ≡ label.number
    → (let made : Label = record { drive = a; drives = b; unit = c; pages = d; number = e } in made ≡ label)
label_from label a b c d e pa pb pc pd pe = rw (pa, pb, pc, pd, pe) refl

-- a label's page reads back where the fields are within their ranges, and as no label otherwise
pub reads-back : (label : Label) → label.drive < 2 ^ 32 → label.drives < 2 ^ 32 → label.unit < 2 ^ 32 → label.pages < 2 ^ 32 → label.number < 2 ^ 64
    → label_of (label_bytes label) ≡ (if is_accepted label then Some label else None)
unfolding label_bytes
reads-back label a b c d e =
    let page = label_bytes label in
    let same : fields_of page ≡ label =
    label_from label _ _ _ _ _
    (little_number-reads_back 4 label.drive (drop 12 page) a)
    (little_number-reads_back 4 label.drives (drop 16 page) b)
    (little_number-reads_back 4 label.unit (drop 20 page) c)
    (little_number-reads_back 4 label.pages (drop 24 page) d)
    (little_number-reads_back 8 label.number (drop 32 page) e) in
    chosen (starts_with nat_eq page drive_magic) (is_blank (drop 32 page)) (fields_of page) label refl same (is_blank-zeros 4064)

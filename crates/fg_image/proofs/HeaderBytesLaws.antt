-- A header that is spelled on its page is read as it was, and its sections stand where it says.
use Rattle.std.proofs.Common.{◌≡◌, ℕ, ◌+◌, ◌*◌, ◌^◌, ◌<◌, ◌≤◌, Bool, true, false, nat_eq, Ok, length, drop, refl, sym, ap, arith}
use Rattle.std.specs.List.{starts_with}
use Rattle.std.specs.Cmp.Derive.{both_true}
use Rattle.std.proofs.lemmas.Bool.{cond-true, le-leb}
use Rattle.byteorder.specs.Numbers.{little_number-reads_back}
use Rattle.fg_image.specs.declared.header.Header.{Header}
use Rattle.fg_image.specs.Header.{has_sections, header_at, header_of, image_magic, is_counted, is_weighted, pages_for, sections_of, size_of}
use Rattle.fg_image.proofs.HeaderLaws.{found, has_sections-from}
use Rattle.fg_index.specs.ImageIndex.{entry_bytes}
use Rattle.fg_stripe.specs.Label.{is_blank}
use Rattle.fg_image.specs.Made.{weight_flag}
use Rattle.fg_image.specs.Making.{header_bytes, header_with}

pub length-header_bytes : (header : Header) → length (header_bytes header) ≡ 4096
unfolding header_bytes
length-header_bytes header = refl

-- the numbers fit into their bytes
pub record Fit (header : Header) : Type 0 where
  pub version : header.version < 2 ^ 32
  pub flags : header.flags < 2 ^ 32
  pub n : header.n < 2 ^ 32
  pub pages : header.pages < 2 ^ 32
  pub out_entries : header.out_entries < 2 ^ 64
  pub in_entries : header.in_entries < 2 ^ 64
  pub out_bytes : header.out_bytes < 2 ^ 64
  pub in_bytes : header.in_bytes < 2 ^ 64
  pub index_bytes : header.index_bytes < 2 ^ 64
  pub out_first : header.out_first < 2 ^ 32
  pub in_first : header.in_first < 2 ^ 32
  pub index_first : header.index_first < 2 ^ 32

made_from : (header : Header) (a b c d e f g h i j k l : ℕ) → a ≡ header.version → b ≡ header.flags → c ≡ header.n → d ≡ header.pages → e ≡ header.out_entries → f ≡ header.in_entries
    → g ≡ header.out_bytes → h ≡ header.in_bytes → i ≡ header.index_bytes → j ≡ header.out_first → k ≡ header.in_first → l ≡ header.index_first
    → (let made : Header = record { version = a; flags = b; n = c; pages = d; out_entries = e; in_entries = f; out_bytes = g; in_bytes = h; index_bytes = i; out_first = j; in_first = k; index_first = l } in made ≡ header)
made_from header a b c d e f g h i j k l pa pb pc pd pe pf pg ph pi pj pk pl = rw (pa, pb, pc, pd, pe, pf, pg, ph, pi, pj, pk, pl) refl

numbers_back : (header : Header) → Fit header → header_of (header_bytes header) ≡ header
unfolding header_bytes
numbers_back header fit =
    let page = header_bytes header in
    made_from header _ _ _ _ _ _ _ _ _ _ _ _
    (little_number-reads_back 4 header.version (drop 12 page) fit.version)
    (little_number-reads_back 4 header.flags (drop 16 page) fit.flags)
    (little_number-reads_back 4 header.n (drop 20 page) fit.n)
    (little_number-reads_back 4 header.pages (drop 24 page) fit.pages)
    (little_number-reads_back 8 header.out_entries (drop 32 page) fit.out_entries)
    (little_number-reads_back 8 header.in_entries (drop 40 page) fit.in_entries)
    (little_number-reads_back 8 header.out_bytes (drop 48 page) fit.out_bytes)
    (little_number-reads_back 8 header.in_bytes (drop 56 page) fit.in_bytes)
    (little_number-reads_back 8 header.index_bytes (drop 64 page) fit.index_bytes)
    (little_number-reads_back 4 header.out_first (drop 68 page) fit.out_first)
    (little_number-reads_back 4 header.in_first (drop 72 page) fit.in_first)
    (little_number-reads_back 4 header.index_first (drop 76 page) fit.index_first)

marked : (header : Header) → starts_with nat_eq (header_bytes header) image_magic ≡ true
unfolding header_bytes
marked header = refl

blank : (header : Header) → is_blank (drop 76 (header_bytes header)) ≡ true
unfolding header_bytes
blank header = refl

-- a header is read back from its page
pub header_back : (header : Header) → Fit header → header.version ≡ 1 → is_counted header ≡ true → Ok header ≡ header_at (header_bytes header)
header_back header fit version counted = found (header_bytes header) header (sym (numbers_back header fit)) (marked header) version counted (blank header)

-- the numbers of an image's header are within the limits
pub record Small (n outs ins index : ℕ) : Type 0 where
  pub few_vertices : n ≤ 2 ^ 24
  pub few_outs : outs ≤ 2 ^ 26
  pub few_ins : ins ≤ 2 ^ 26
  pub few_bytes : index ≤ 2 ^ 27

section_small : (weighted : Bool) (entries : ℕ) → entries ≤ 2 ^ 26 → entries * entry_bytes weighted ≤ 2 ^ 29
section_small true entries few = omega arith
section_small false entries few = omega arith

module _ (weighted : Bool) (n outs ins index : ℕ) (small : Small n outs ins index) where
  pub pages_few : (header_with weighted n outs ins index).pages ≤ 2 ^ 19
  pages_few = omega (arith, section_small weighted outs small.few_outs, section_small weighted ins small.few_ins, small.few_bytes)

  flag_small : (w : Bool) → weight_flag w ≤ 1
  flag_small true = omega arith
  flag_small false = omega arith

  pub all_fit : Fit (header_with weighted n outs ins index)
  all_fit =
      let out_small = section_small weighted outs small.few_outs in
      let in_small = section_small weighted ins small.few_ins in
      record {
        version = omega arith;
        flags = omega (arith, flag_small weighted);
        n = omega (arith, small.few_vertices);
        pages = omega (arith, pages_few);
        out_entries = omega (arith, small.few_outs);
        in_entries = omega (arith, small.few_ins);
        out_bytes = omega (arith, out_small);
        in_bytes = omega (arith, in_small);
        index_bytes = omega (arith, small.few_bytes);
        out_first = omega arith;
        in_first = omega (arith, pages_few);
        index_first = omega (arith, pages_few);
      }

  pub is_counted-with : is_counted (header_with weighted n outs ins index) ≡ true
  is_counted-with = both_true (both_true (both_true (le-leb _ _ (flag_small weighted)) (le-leb _ _ small.few_vertices)) (le-leb _ _ small.few_outs)) (le-leb _ _ small.few_ins)

-- the flags tell whether entries have weights
pub is_weighted-with : (weighted : Bool) (n outs ins index : ℕ) → is_weighted (header_with weighted n outs ins index) ≡ weighted
is_weighted-with true n outs ins index = refl
is_weighted-with false n outs ins index = refl

-- the sections stand where the header says
has : (weighted : Bool) (n outs ins index pages : ℕ) → index ≤ 2 ^ 27 → (header_with weighted n outs ins index).pages ≡ pages
    → has_sections pages (header_with weighted n outs ins index) ≡ true
has weighted n outs ins index pages few same =
    let size : entry_bytes weighted ≡ size_of (header_with weighted n outs ins index) = ap entry_bytes (sym (is_weighted-with weighted n outs ins index)) in
    has_sections-from pages (header_with weighted n outs ins index) (record {
      out_bytes = ap (λ (bytes : ℕ). outs * bytes) size;
      in_bytes = ap (λ (bytes : ℕ). ins * bytes) size;
      index_bytes = few;
      out_first = refl;
      in_first = refl;
      index_first = refl;
      end = refl;
      all = same;
    })

pub sections_back : (weighted : Bool) (n outs ins index pages : ℕ) → index ≤ 2 ^ 27 → (header_with weighted n outs ins index).pages ≡ pages
    → Ok (record { drives = 1; unit = 1; pages = pages; out_first = 1; in_first = 1 + pages_for (outs * entry_bytes weighted) }) ≡ sections_of (header_with weighted n outs ins index) pages
sections_back weighted n outs ins index pages few same =
    let header = header_with weighted n outs ins index in
    sym (cond-true (has_sections pages header) _ _ (has weighted n outs ins index pages few same))

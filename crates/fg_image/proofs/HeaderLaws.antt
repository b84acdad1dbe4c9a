-- Which header pages are accepted, test by test, and what an accepted header's numbers have to do with one another.
use Rattle.std.proofs.Common.{◌≡◌, ℕ, ◌+◌, ◌*◌, ◌^◌, ◌≤◌, Bool, true, false, ◌&&◌, nat_eq, Ok, Err, List, drop, refl, sym, ap, ◌∙◌, eqb, eq-eqb}
use Rattle.std.specs.List.{starts_with}
use Rattle.std.proofs.lemmas.Bool.{and_left, and_right, cond-true, cond-false, eqb-true, le-leb, leb-true}
use Rattle.std.specs.Cmp.Derive.{both_true}
use Rattle.fg_base.specs.declared.refusal.Refusal.TheVariants.{BadHeader}
use Rattle.fg_image.specs.declared.header.Header.{Header}
use Rattle.fg_image.specs.Front.{HeaderFits}
use Rattle.fg_image.specs.Header.{counted_header, has_sections, header_at, header_of, image_magic, is_counted, pages_for, size_of}
use Rattle.fg_stripe.specs.Label.{is_blank}

-- both tests hold
both : (a b : Bool) → (a && b) ≡ true → (a ≡ true) × (b ≡ true)
both true b h = (refl, h)
both false b h = absurd (cc)

module _ (page : List ℕ) (header : Header) (same : header ≡ header_of page) (marked : starts_with nat_eq page image_magic ≡ true) (version : header.version ≡ 1) where
  -- a page with the magic and version 1 is judged by its counts and by what stands behind them
  judged : header_at page ≡ counted_header page
  judged =
      let number = λ (read : Header). eqb read.version 1 in
      let one : eqb (header_of page).version 1 ≡ true = ap number (sym same) ∙ eq-eqb header.version 1 version in
      cond-true (starts_with nat_eq page image_magic) _ _ marked ∙ cond-true (eqb (header_of page).version 1) _ _ one

  pub found : is_counted header ≡ true → is_blank (drop 76 page) ≡ true → Ok header ≡ header_at page
  found counted blank =
      let test : (is_counted (header_of page) && is_blank (drop 76 page)) ≡ true = both_true (ap is_counted (sym same) ∙ counted) blank in
      ap Ok same ∙ sym (cond-true (is_counted (header_of page) && is_blank (drop 76 page)) (Ok (header_of page)) (Err BadHeader) test) ∙ sym judged

  pub uncounted : is_counted header ≡ false → Err BadHeader ≡ header_at page
  uncounted counted =
      let test : (is_counted (header_of page) && is_blank (drop 76 page)) ≡ false = and_left _ _ (ap is_counted (sym same) ∙ counted) in
      sym (cond-false (is_counted (header_of page) && is_blank (drop 76 page)) (Ok (header_of page)) (Err BadHeader) test) ∙ sym judged

  pub marred : is_blank (drop 76 page) ≡ false → Err BadHeader ≡ header_at page
  marred blank =
      let test : (is_counted (header_of page) && is_blank (drop 76 page)) ≡ false = and_right _ _ blank in
      sym (cond-false (is_counted (header_of page) && is_blank (drop 76 page)) (Ok (header_of page)) (Err BadHeader) test) ∙ sym judged

-- the counts of a header within the limits
pub record Counts (header : Header) : Type 0 where
  pub few_vertices : header.n ≤ 2 ^ 24
  pub few_outs : header.out_entries ≤ 2 ^ 26
  pub few_ins : header.in_entries ≤ 2 ^ 26

pub counts : (header : Header) → is_counted header ≡ true → Counts header
counts header counted =
    let ins = both _ _ counted in
    let outs = both _ _ ins.0 in
    let vertices = both _ _ outs.0 in
    record {
      few_vertices = leb-true _ _ vertices.1;
      few_outs = leb-true _ _ outs.1;
      few_ins = leb-true _ _ ins.1;
    }

-- where the sections of a header stand
pub record Stands (pages : ℕ) (header : Header) : Type 0 where
  pub out_bytes : header.out_bytes ≡ header.out_entries * size_of header
  pub in_bytes : header.in_bytes ≡ header.in_entries * size_of header
  pub index_bytes : header.index_bytes ≤ 2 ^ 27
  pub out_first : header.out_first ≡ 1
  pub in_first : header.in_first ≡ 1 + pages_for header.out_bytes
  pub index_first : header.index_first ≡ header.in_first + pages_for header.in_bytes
  pub end : header.pages ≡ header.index_first + pages_for header.index_bytes
  pub all : header.pages ≡ pages

pub stands : (pages : ℕ) (header : Header) → has_sections pages header ≡ true → Stands pages header
stands pages header has =
    let all = both _ _ has in
    let end = both _ _ all.0 in
    let index_first = both _ _ end.0 in
    let in_first = both _ _ index_first.0 in
    let out_first = both _ _ in_first.0 in
    let index_bytes = both _ _ out_first.0 in
    let bytes = both _ _ index_bytes.0 in
    record {
      out_bytes = eqb-true _ _ bytes.0;
      in_bytes = eqb-true _ _ bytes.1;
      index_bytes = leb-true _ _ index_bytes.1;
      out_first = eqb-true _ _ out_first.1;
      in_first = eqb-true _ _ in_first.1;
      index_first = eqb-true _ _ index_first.1;
      end = eqb-true _ _ end.1;
      all = eqb-true _ _ all.1;
    }

pub has_sections-from : (pages : ℕ) (header : Header) → Stands pages header → has_sections pages header ≡ true
has_sections-from pages header s =
    let bytes = both_true (both_true (eq-eqb _ _ s.out_bytes) (eq-eqb _ _ s.in_bytes)) (le-leb _ _ s.index_bytes) in
    let firsts = both_true (both_true (both_true bytes (eq-eqb _ _ s.out_first)) (eq-eqb _ _ s.in_first)) (eq-eqb _ _ s.index_first) in
    both_true (both_true firsts (eq-eqb _ _ s.end)) (eq-eqb _ _ s.all)

pub header_fits : (pages : ℕ) (header : Header) → has_sections pages header ≡ true → is_counted header ≡ true → pages ≤ 2 ^ 19
    → HeaderFits header (record { drives = 1; unit = 1; pages = pages; out_first = header.out_first; in_first = header.in_first })
header_fits pages header has counted few =
    let s = stands pages header has in
    let c = counts header counted in
    record {
      few_vertices = c.few_vertices;
      few_pages = few;
      few_outs = c.few_outs;
      few_ins = c.few_ins;
      few_bytes = s.index_bytes;
      outs_first = s.out_first;
      ins_behind = s.in_first ∙ ap (λ (bytes : ℕ). 1 + pages_for bytes) s.out_bytes;
      index_behind = s.index_first ∙ ap (λ (bytes : ℕ). header.in_first + pages_for bytes) s.in_bytes;
      index_last = sym s.all ∙ s.end;
    }

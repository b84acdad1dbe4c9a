-- What an image says: its parts, from those of its header page and of its index.
use Rattle.std.proofs.Common.{◌≡◌, ◌≢◌, ℕ, ◌+◌, ◌*◌, ◌≤◌, Bool, Result, Ok, Err, List, length, sum, refl, sym, ap, ◌∙◌, arith, inl, inr}
use Rattle.std.proofs.lemmas.Bool.{cases_Bool, cond-true, cond-false}
use Rattle.fg_base.specs.declared.plain.Dir.{Dir}
use Rattle.fg_base.specs.declared.refusal.Refusal.{Refusal}
use Rattle.fg_base.specs.declared.refusal.Refusal.TheVariants.{Memory, BadIndex, BadSections}
use Rattle.fg_image.specs.declared.header.Header.{Header}
use Rattle.fg_image.specs.Front.{HeaderFits, with_header, with_layout}
use Rattle.fg_image.specs.Header.{has_sections, header_at, is_weighted, pages_for, sections_of}
use Rattle.fg_image.specs.Image.{IndexFits, found_index, index_in, index_of, parts_in, with_front, with_index}
use Rattle.fg_index.specs.ImageIndex.{ImageIndex, IsFaultOf, entry_bytes, index_at}
use Rattle.fg_stripe.specs.declared.layout.Layout.{Layout}
use Rattle.fg_stripe.specs.Held.{page_of}

-- the pages of so many entries
pages_by : (weighted other : Bool) (sum entries : ℕ) → weighted ≡ other → sum ≡ entries → pages_for (sum * entry_bytes weighted) ≡ pages_for (entries * entry_bytes other)
pages_by weighted other sum entries p q = rw (p, q) refl

-- the index of an accepted header fits its sections
pub index_fits : (header : Header) (layout : Layout) (index : ImageIndex) → HeaderFits header layout → index.weighted ≡ is_weighted header
    → length index.outs ≡ header.n → length index.ins ≡ header.n → sum index.outs ≡ header.out_entries → sum index.ins ≡ header.in_entries
    → IndexFits layout index
index_fits header layout index fits weighted each_out each_in sum_out sum_in =
    let outs = pages_by index.weighted (is_weighted header) (sum index.outs) header.out_entries weighted sum_out in
    let ins = pages_by index.weighted (is_weighted header) (sum index.ins) header.in_entries weighted sum_in in
    record {
      few_vertices = omega (arith, each_out, fits.few_vertices);
      same_vertices = each_in ∙ sym each_out;
      few_outs = omega (arith, sum_out, fits.few_outs);
      few_ins = omega (arith, sum_in, fits.few_ins);
      few_pages = fits.few_pages;
      outs_first = fits.outs_first;
      ins_behind = fits.ins_behind ∙ ap (λ (pages : ℕ). 1 + pages) (sym outs);
      within = omega (arith, ins, fits.index_behind, fits.index_last);
    }

-- an accepted header is one of an image of just so many pages
pub sections_pages : (header : Header) (pages : ℕ) (layout : Layout) → Ok layout ≡ sections_of header pages → layout.pages ≡ pages
sections_pages header pages layout accepted =
    let stood : Layout = record { drives = 1; unit = 1; pages = pages; out_first = header.out_first; in_first = header.in_first } in
    elim (cases_Bool (has_sections pages header)) [
      | inl holds ↦
          let same : Ok layout ≡ Ok stood = accepted ∙ cond-true (has_sections pages header) (Ok stood) (Err BadSections) holds in
          let inside : layout ≡ stood = cc in
          ap (λ (l : Layout). l.pages) inside
      | inr fails ↦
          let never : Ok layout ≡ Err BadSections = accepted ∙ cond-false (has_sections pages header) (Ok stood) (Err BadSections) fails in
          absurd (cc)
    ]

-- the bytes of the index of an accepted header stand within its pages
pub index_within : (header : Header) (layout : Layout) → HeaderFits header layout → header.index_first * 4096 + header.index_bytes ≤ layout.pages * 4096
index_within header layout fits = omega (arith, fits.index_last)

module _ (pages : ℕ) (image : List ℕ) where
  -- the header is refused
  pub header_refused : (refusal : Refusal) → Err refusal ≡ header_at (page_of image 0) → parts_in pages image ≡ Err refusal
  unfolding parts_in
  header_refused refusal read = ap (λ (r : Result Header Refusal). with_front image (with_header pages r)) (sym read)

  -- the sections are refused
  pub sections_refused : (header : Header) (refusal : Refusal) → Ok header ≡ header_at (page_of image 0) → Err refusal ≡ sections_of header pages → parts_in pages image ≡ Err refusal
  unfolding parts_in
  sections_refused header refusal read placed =
      ap (λ (r : Result Header Refusal). with_front image (with_header pages r)) (sym read)
      ∙ ap (λ (r : Result Layout Refusal). with_front image (with_layout header r)) (sym placed)

  -- header and sections are accepted
  pub front_accepted : (header : Header) (layout : Layout) → Ok header ≡ header_at (page_of image 0) → Ok layout ≡ sections_of header pages
      → parts_in pages image ≡ with_index (record { header = header; layout = layout }) (index_of header (index_in header image))
  unfolding parts_in
  front_accepted header layout read placed =
      ap (λ (r : Result Header Refusal). with_front image (with_header pages r)) (sym read)
      ∙ ap (λ (r : Result Layout Refusal). with_front image (with_layout header r)) (sym placed)

-- what was found of an index, as a result of its reading
index_found : (weighted : Bool) (found : Result (List ℕ × List ℕ) (Dir × ℕ)) (index : ImageIndex) → index.weighted ≡ weighted → found ≡ Ok (index.outs, index.ins)
    → found_index weighted found ≡ Ok index
index_found weighted found index same read =
    ap (found_index weighted) read ∙ ap (λ (w : Bool). Ok (with_weights w)) (sym same)
  where
    with_weights : Bool → ImageIndex
    with_weights w = record { weighted = w; outs = index.outs; ins = index.ins }

index_fault : (weighted : Bool) (found : Result (List ℕ × List ℕ) (Dir × ℕ)) (refusal : Refusal) → IsFaultOf found refusal → refusal ≢ Memory
    → found_index weighted found ≡ Err refusal
index_fault weighted found Memory is other = absurd (other refl)
index_fault weighted found (BadIndex dir place) is other = ap (found_index weighted) is
index_fault weighted found refusal is other = absurd is

module _ (pages : ℕ) (image : List ℕ) (header : Header) (layout : Layout) (read : Ok header ≡ header_at (page_of image 0)) (placed : Ok layout ≡ sections_of header pages) where
  pub parts_found : (index : ImageIndex) → index.weighted ≡ is_weighted header
      → index_at header.n header.out_entries header.in_entries (index_in header image) ≡ Ok (index.outs, index.ins)
      → parts_in pages image ≡ Ok (record { header = header; layout = layout; index = index })
  parts_found index same found =
      front_accepted pages image header layout read placed
      ∙ ap (with_index (record { header = header; layout = layout })) (index_found (is_weighted header) _ index same found)

  pub index_refused : (refusal : Refusal) → IsFaultOf (index_at header.n header.out_entries header.in_entries (index_in header image)) refusal → refusal ≢ Memory
      → parts_in pages image ≡ Err refusal
  index_refused refusal is other =
      front_accepted pages image header layout read placed
      ∙ ap (with_index (record { header = header; layout = layout })) (index_fault (is_weighted header) _ refusal is other)

-- Where the lists of an image begin and end: one behind the other, within the pages, at whole entries.
use Rattle.std.proofs.Common.{◌≡◌, ℕ, ◌+◌, ◌*◌, ◌%◌, ◌<◌, ◌≤◌, Bool, true, false, List, [], ◌∷◌, length, take, get_or, sum, refl, ap, ◌∙◌, arith}
use Rattle.std.proofs.Math.Nat.{add-mul, mul-le-mul_right}
use Rattle.std.proofs.lemmas.List.{take_more}
use Rattle.std.proofs.lemmas.List.Sums.{sum_by-append, sum_by-take-le}
use Rattle.fg_base.specs.declared.plain.Dir.{Dir}
use Rattle.fg_base.specs.declared.plain.Dir.TheVariants.{Out, In}
use Rattle.fg_image.specs.Header.{pages_for}
use Rattle.fg_image.specs.Image.{IndexFits}
use Rattle.fg_image.specs.Lists.{begin_of, end_of, first_page_of}
use Rattle.fg_index.specs.ImageIndex.{ImageIndex, degrees_in, entry_bytes}
use Rattle.fg_stripe.specs.declared.layout.Layout.{Layout}

pub sum-more : (degrees : List ℕ) (v : ℕ) → v < length degrees → sum (take (v + 1) degrees) ≡ sum (take v degrees) + get_or degrees v 0
sum-more degrees v within =
    let one : sum (get_or degrees v 0 ∷ []) ≡ get_or degrees v 0 = omega arith in
    ap sum (take_more degrees v 0 within) ∙ sum_by-append (λ x. x) (take v degrees) (get_or degrees v 0 ∷ []) ∙ ap (λ (n : ℕ). sum (take v degrees) + n) one

-- the list of the next vertex begins where that of v ends
pub begin_of-next : (layout : Layout) (index : ImageIndex) (dir : Dir) (v : ℕ) → v < length (degrees_in index dir)
    → begin_of layout index dir (v + 1) ≡ end_of layout index dir v
begin_of-next layout index dir v within =
    let degrees = degrees_in index dir in
    let size = entry_bytes index.weighted in
    let more : sum (take (v + 1) degrees) * size ≡ sum (take v degrees) * size + get_or degrees v 0 * size =
    ap (λ (n : ℕ). n * size) (sum-more degrees v within) ∙ add-mul (sum (take v degrees)) (get_or degrees v 0) size in
    omega (arith, more)

-- so many bytes are within their pages
pub within_pages : (bytes : ℕ) → bytes ≤ pages_for bytes * 4096
within_pages bytes = omega arith

-- a section's bytes end within the pages
pub section_within : (layout : Layout) (index : ImageIndex) (dir : Dir) → IndexFits layout index
    → first_page_of layout dir * 4096 + sum (degrees_in index dir) * entry_bytes index.weighted ≤ layout.pages * 4096
section_within layout index Out fits =
    let outs = within_pages (sum index.outs * entry_bytes index.weighted) in
    omega (arith, outs, fits.outs_first, fits.ins_behind, fits.within)
section_within layout index In fits =
    let ins = within_pages (sum index.ins * entry_bytes index.weighted) in
    omega (arith, ins, fits.within)

-- there are as many degrees in either direction
pub each_degree : (layout : Layout) (index : ImageIndex) (dir : Dir) → IndexFits layout index → length (degrees_in index dir) ≡ length index.outs
each_degree layout index Out fits = refl
each_degree layout index In fits = fits.same_vertices

pub few_degrees : (layout : Layout) (index : ImageIndex) (dir : Dir) → IndexFits layout index → sum (degrees_in index dir) ≤ 67108864
few_degrees layout index Out fits = fits.few_outs
few_degrees layout index In fits = fits.few_ins

-- every list ends within the pages
pub end_within : (layout : Layout) (index : ImageIndex) (dir : Dir) (v : ℕ) → IndexFits layout index → v < length index.outs
    → end_of layout index dir v ≤ layout.pages * 4096
end_within layout index dir v fits within =
    let degrees = degrees_in index dir in
    let size = entry_bytes index.weighted in
    let here : v < length degrees = omega (arith, each_degree layout index dir fits) in
    let next = begin_of-next layout index dir v here in
    let some : sum (take (v + 1) degrees) * size ≤ sum degrees * size = mul-le-mul_right size (sum_by-take-le (λ x. x) degrees (v + 1)) in
    omega (arith, next, some, section_within layout index dir fits)

-- every list begins at a whole entry
pub begin_whole : (layout : Layout) (index : ImageIndex) (dir : Dir) (v : ℕ) → begin_of layout index dir v % entry_bytes index.weighted ≡ 0
begin_whole layout index dir v = whole index.weighted (first_page_of layout dir) (sum (take v (degrees_in index dir)))
  where
    whole : (weighted : Bool) (page entries : ℕ) → (page * 4096 + entries * entry_bytes weighted) % entry_bytes weighted ≡ 0
    whole true page entries = omega arith
    whole false page entries = omega arith

-- a place that was moved by a list is where the next one begins
pub moved : (place begin degree count size bytes next : ℕ) → place ≡ begin → degree ≡ count → size ≡ bytes → next ≡ begin + count * bytes → place + degree * size ≡ next
moved place begin degree count size bytes next at_begin same_count same_size is_next = rw (at_begin, same_count, same_size, is_next) refl

-- The image of a graph within the limits is an image, and its graph is the graph that it was made of.
use Rattle.std.proofs.Common.{leb, ◌≡◌, ℕ, ◌+◌, ◌-◌, ◌*◌, ◌/◌, ◌^◌, ◌<◌, ◌≤◌, Bool, cond, Ok, List, [], ◌∷◌, ◌++◌, length, take, drop, map, sum, refl, sym, ap, ◌∙◌, append_assoc, arith, inl, inr, take_at, drop_at}
use Rattle.std.specs.Prelude.{All, sum_by}
use Rattle.std.specs.List.{range_with_len}
use Rattle.std.proofs.lemmas.Bool.{cases_Bool, leb-true}
use Rattle.std.proofs.lemmas.List.{length-append, length-map, length-replicate}
use Rattle.std.proofs.lemmas.List.Elements.{All-cons, All-nil}
use Rattle.std.proofs.lemmas.List.Sums.{sum-map, sum_by-cons}
use Rattle.fg_base.specs.declared.plain.Dir.TheVariants.{Out, In}
use Rattle.fg_base.specs.declared.plain.Entry.{Entry}
use Rattle.fg_image.specs.Header.{header_at, pages_for, sections_of}
use Rattle.fg_image.specs.Image.{IsImage, Parts, graph_in, index_in, parts_in}
use Rattle.fg_image.specs.Lists.{graph_by, list_of, rows_of}
use Rattle.fg_image.proofs.HeaderBytesLaws.{Small, all_fit, header_back, is_counted-with, is_weighted-with, length-header_bytes, pages_few, sections_back}
use Rattle.fg_image.proofs.IndexBytesLaws.{AreDegrees, index_back, length-direction_bytes}
use Rattle.fg_image.proofs.PartsLaws.{parts_found}
use Rattle.fg_image.proofs.SectionBytesLaws.{length-section, rows_back}
use Rattle.fg_image.proofs.SpanLaws.{within_pages}
use Rattle.fg_index.specs.ImageIndex.{entry_bytes, index_at}
use Rattle.fg_model.specs.declared.graph.Graph.{Graph}
use Rattle.fg_model.specs.Graph.{IsSide, IsWithinLimits}
use Rattle.fg_stripe.specs.Held.{page_of}
use Rattle.fg_image.specs.Made.{header_for, padded, spelled_direction, spelled_image, spelled_index, spelled_lists}
use Rattle.fg_image.specs.Making.{blanks, header_bytes, long_degrees}
use Rattle.fg_image.proofs.SectionBytesLaws.{degrees_of}

pub length-zeros : (n : ℕ) → length (blanks n) ≡ n
length-zeros n = length-replicate n 0

-- padded bytes fill whole pages
pub length-padded : (bytes : List ℕ) → length (padded bytes) ≡ pages_for (length bytes) * 4096
length-padded bytes =
    let rest = pages_for (length bytes) * 4096 - length bytes in
    length-append bytes (blanks rest) ∙ omega (arith, length-zeros rest, within_pages (length bytes))

-- each degree is at most their sum
pub degrees_fit : (degrees : List ℕ) → sum degrees ≤ 2 ^ 26 → All (λ degree. degree < 2 ^ 32) degrees
degrees_fit [] few = All-nil (λ degree. degree < 2 ^ 32)
degrees_fit (degree ∷ degrees) few =
    let all = sum_by-cons (λ (n : ℕ). n) degree degrees in
    All-cons (λ d. d < 2 ^ 32) degree degrees (omega (arith, all)) (degrees_fit degrees (omega (arith, all)))

-- few degrees are long
pub long_bound : (degrees : List ℕ) → 255 * long_degrees degrees ≤ sum degrees
long_bound [] = omega arith
long_bound (degree ∷ degrees) =
    let all = sum_by-cons (λ (n : ℕ). n) degree degrees in
    let longs = sum_by-cons (λ d. cond (leb 255 d) 1 0) degree degrees in
    let rest = long_bound degrees in
    let one : 255 * cond (leb 255 degree) 1 0 ≤ degree =
    elim (cases_Bool (leb 255 degree)) [
      | inl long ↦ rw long (let above = leb-true 255 degree long in omega arith)
      | inr short ↦ rw short (omega arith)
    ] in
    omega (arith, all, longs, rest, one)

few_entries : (n : ℕ) (weighted : Bool) (rows : List (List Entry)) → IsSide n weighted rows → sum (degrees_of rows) ≤ 2 ^ 26
few_entries n weighted rows side = omega (arith, sum-map (λ (entries : List Entry). length entries) rows, side.entry_count)

side_degrees : (n : ℕ) (weighted : Bool) (rows : List (List Entry)) → n ≤ 2 ^ 24 → IsSide n weighted rows → AreDegrees n (sum_by length rows) (degrees_of rows)
side_degrees n weighted rows few side = record {
  each = length-map rows length ∙ side.row_count;
  all = sum-map (λ (entries : List Entry). length entries) rows;
  few = few;
  fit = degrees_fit (degrees_of rows) (few_entries n weighted rows side);
}

section_long : (weighted : Bool) (rows : List (List Entry)) → length (spelled_lists weighted rows) ≡ sum_by length rows * entry_bytes weighted
section_long weighted rows =
    length-section weighted rows ∙ ap (λ (entries : ℕ). entries * entry_bytes weighted) (sum-map (λ (entries : List Entry). length entries) rows)

-- the parts of a graph's image
abbrev pub parts_of : Graph → Parts
parts_of graph =
    let header = header_for graph in
    record {
      header = header;
      layout = record { drives = 1; unit = 1; pages = header.pages; out_first = 1; in_first = header.in_first };
      index = record { weighted = graph.weighted; outs = degrees_of graph.outs; ins = degrees_of graph.ins };
    }

-- the image is the header's page, the sections and the index
pub image-parts : (graph : Graph) → spelled_image graph
    ≡ header_bytes (header_for graph) ++ padded (spelled_lists graph.weighted graph.outs) ++ padded (spelled_lists graph.weighted graph.ins) ++ padded (spelled_index graph)
unfolding spelled_image header_bytes
image-parts graph = refl

module _ (graph : Graph) (limits : IsWithinLimits graph) where
  outs_are : AreDegrees graph.n (sum_by length graph.outs) (degrees_of graph.outs)
  outs_are = side_degrees graph.n graph.weighted graph.outs limits.vertex_count limits.out_side

  ins_are : AreDegrees graph.n (sum_by length graph.ins) (degrees_of graph.ins)
  ins_are = side_degrees graph.n graph.weighted graph.ins limits.vertex_count limits.in_side

  pub length-index : length (spelled_index graph) ≡ 2 * graph.n + 8 + 8 * long_degrees (degrees_of graph.outs) + 8 * long_degrees (degrees_of graph.ins)
  length-index =
      let outs = length-direction_bytes graph.n _ (degrees_of graph.outs) [] outs_are in
      let ins = length-direction_bytes graph.n _ (degrees_of graph.ins) [] ins_are in
      length-append (spelled_direction (degrees_of graph.outs)) (spelled_direction (degrees_of graph.ins)) ∙ omega (arith, outs, ins)

  pub small : Small graph.n (sum_by length graph.outs) (sum_by length graph.ins) (length (spelled_index graph))
  small =
      let outs = few_entries graph.n graph.weighted graph.outs limits.out_side in
      let ins = few_entries graph.n graph.weighted graph.ins limits.in_side in
      record {
        few_vertices = limits.vertex_count;
        few_outs = limits.out_side.entry_count;
        few_ins = limits.in_side.entry_count;
        few_bytes = omega (arith, length-index, long_bound (degrees_of graph.outs), long_bound (degrees_of graph.ins), outs, ins, limits.vertex_count);
      }

  -- the image is the header's page and what stands behind it
  split_header : spelled_image graph
      ≡ header_bytes (header_for graph) ++ (padded (spelled_lists graph.weighted graph.outs) ++ (padded (spelled_lists graph.weighted graph.ins) ++ padded (spelled_index graph)))
  split_header =
      let head = header_bytes (header_for graph) in
      let outs = padded (spelled_lists graph.weighted graph.outs) in
      let ins = padded (spelled_lists graph.weighted graph.ins) in
      let index = padded (spelled_index graph) in
      image-parts graph ∙ append_assoc (head ++ outs) ins index ∙ append_assoc head outs (ins ++ index)

  split_ins : spelled_image graph
      ≡ (header_bytes (header_for graph) ++ padded (spelled_lists graph.weighted graph.outs)) ++ (padded (spelled_lists graph.weighted graph.ins) ++ padded (spelled_index graph))
  split_ins =
      let head = header_bytes (header_for graph) in
      let outs = padded (spelled_lists graph.weighted graph.outs) in
      image-parts graph ∙ append_assoc (head ++ outs) (padded (spelled_lists graph.weighted graph.ins)) (padded (spelled_index graph))

  split_index : spelled_image graph
      ≡ (header_bytes (header_for graph) ++ padded (spelled_lists graph.weighted graph.outs) ++ padded (spelled_lists graph.weighted graph.ins)) ++ padded (spelled_index graph)
  split_index = image-parts graph

  outs_pages : length (padded (spelled_lists graph.weighted graph.outs)) ≡ pages_for (sum_by length graph.outs * entry_bytes graph.weighted) * 4096
  outs_pages = length-padded (spelled_lists graph.weighted graph.outs) ∙ ap (λ (n : ℕ). pages_for n * 4096) (section_long graph.weighted graph.outs)

  ins_pages : length (padded (spelled_lists graph.weighted graph.ins)) ≡ pages_for (sum_by length graph.ins * entry_bytes graph.weighted) * 4096
  ins_pages = length-padded (spelled_lists graph.weighted graph.ins) ∙ ap (λ (n : ℕ). pages_for n * 4096) (section_long graph.weighted graph.ins)

  before_ins : length (header_bytes (header_for graph) ++ padded (spelled_lists graph.weighted graph.outs)) ≡ (header_for graph).in_first * 4096
  before_ins =
      length-append (header_bytes (header_for graph)) (padded (spelled_lists graph.weighted graph.outs))
      ∙ omega (arith, length-header_bytes (header_for graph), outs_pages)

  before_index : length (header_bytes (header_for graph) ++ padded (spelled_lists graph.weighted graph.outs) ++ padded (spelled_lists graph.weighted graph.ins))
      ≡ (header_for graph).index_first * 4096
  before_index =
      length-append (header_bytes (header_for graph) ++ padded (spelled_lists graph.weighted graph.outs)) (padded (spelled_lists graph.weighted graph.ins))
      ∙ omega (arith, before_ins, ins_pages)

  pub length-image : length (spelled_image graph) ≡ (header_for graph).pages * 4096
  length-image =
      ap length split_index
      ∙ length-append (header_bytes (header_for graph) ++ padded (spelled_lists graph.weighted graph.outs) ++ padded (spelled_lists graph.weighted graph.ins)) (padded (spelled_index graph))
      ∙ omega (arith, before_index, length-padded (spelled_index graph))

  first_page : page_of (spelled_image graph) 0 ≡ header_bytes (header_for graph)
  first_page = ap (take 4096) split_header ∙ take_at (header_bytes (header_for graph)) _ 4096 (length-header_bytes (header_for graph))

  index_there : index_in (header_for graph) (spelled_image graph) ≡ spelled_index graph
  index_there =
      let index = spelled_index graph in
      ap (λ (bytes : List ℕ). take (length index) (drop ((header_for graph).index_first * 4096) bytes)) split_index
      ∙ ap (take (length index)) (drop_at _ (padded index) ((header_for graph).index_first * 4096) before_index)
      ∙ take_at index (blanks (pages_for (length index) * 4096 - length index)) (length index) refl

  -- header, sections and index are accepted
  parts_back : parts_in (header_for graph).pages (spelled_image graph) ≡ Ok (parts_of graph)
  parts_back =
      let header = header_for graph in
      let parts = parts_of graph in
      let fit = all_fit graph.weighted graph.n _ _ _ small in
      let counted = is_counted-with graph.weighted graph.n _ _ _ small in
      let read : Ok header ≡ header_at (page_of (spelled_image graph) 0) = header_back header fit refl counted ∙ ap header_at (sym first_page) in
      let placed : Ok parts.layout ≡ sections_of header header.pages = sections_back graph.weighted graph.n _ _ _ header.pages small.few_bytes refl in
      let found : index_at header.n header.out_entries header.in_entries (index_in header (spelled_image graph)) ≡ Ok (degrees_of graph.outs, degrees_of graph.ins) =
      ap (index_at header.n header.out_entries header.in_entries) index_there
      ∙ index_back graph.n _ _ (degrees_of graph.outs) (degrees_of graph.ins) outs_are ins_are in
      parts_found header.pages (spelled_image graph) header parts.layout read placed parts.index (sym (is_weighted-with graph.weighted graph.n (sum_by length graph.outs) (sum_by length graph.ins) (length (spelled_index graph)))) found

  pub image_back : IsImage (spelled_image graph) (parts_of graph)
  image_back =
      let header = header_for graph in
      let pages : length (spelled_image graph) / 4096 ≡ header.pages = omega (arith, length-image) in
      record {
        whole = omega (arith, length-image);
        some_pages = omega (arith, length-image, length-index);
        few_pages = omega (arith, length-image, pages_few graph.weighted graph.n _ _ _ small);
        accepted = ap (λ (p : ℕ). parts_in p (spelled_image graph)) pages ∙ parts_back;
      }

  behind_outs : List ℕ
  behind_outs =
      let outs = spelled_lists graph.weighted graph.outs in
      blanks (pages_for (length outs) * 4096 - length outs) ++ (padded (spelled_lists graph.weighted graph.ins) ++ padded (spelled_index graph))

  behind_ins : List ℕ
  behind_ins =
      let ins = spelled_lists graph.weighted graph.ins in
      blanks (pages_for (length ins) * 4096 - length ins) ++ padded (spelled_index graph)

  outs_there : drop (1 * 4096) (spelled_image graph) ≡ spelled_lists graph.weighted graph.outs ++ behind_outs
  unfolding behind_outs
  outs_there =
      let outs = spelled_lists graph.weighted graph.outs in
      let rest = padded (spelled_lists graph.weighted graph.ins) ++ padded (spelled_index graph) in
      ap (drop 4096) split_header
      ∙ drop_at (header_bytes (header_for graph)) (padded outs ++ rest) 4096 (length-header_bytes (header_for graph))
      ∙ append_assoc outs (blanks (pages_for (length outs) * 4096 - length outs)) rest

  ins_there : drop ((header_for graph).in_first * 4096) (spelled_image graph) ≡ spelled_lists graph.weighted graph.ins ++ behind_ins
  unfolding behind_ins
  ins_there =
      let ins = spelled_lists graph.weighted graph.ins in
      let rest = padded (spelled_index graph) in
      ap (drop ((header_for graph).in_first * 4096)) split_ins
      ∙ drop_at (header_bytes (header_for graph) ++ padded (spelled_lists graph.weighted graph.outs)) (padded ins ++ rest) ((header_for graph).in_first * 4096) before_ins
      ∙ append_assoc ins (blanks (pages_for (length ins) * 4096 - length ins)) rest

  each_out : length (degrees_of graph.outs) ≡ graph.n
  each_out = outs_are.each

  -- the lists are cut out as they were
  pub graph_back : graph_in (parts_of graph) (spelled_image graph) ≡ graph
  unfolding graph_by
  graph_back =
      let parts = parts_of graph in
      let image = spelled_image graph in
      let outs : rows_of parts.layout parts.index image Out ≡ graph.outs =
      ap (λ (n : ℕ). map (list_of parts.layout parts.index image Out) (range_with_len 0 n)) (length-map graph.outs length)
      ∙ rows_back graph.weighted image (1 * 4096) graph.outs behind_outs limits.out_side.all_entries outs_there in
      let ins : rows_of parts.layout parts.index image In ≡ graph.ins =
      ap (λ (n : ℕ). map (list_of parts.layout parts.index image In) (range_with_len 0 n)) (each_out ∙ sym limits.in_side.row_count)
      ∙ rows_back graph.weighted image (parts.layout.in_first * 4096) graph.ins behind_ins limits.in_side.all_entries ins_there in
      made _ _ _ graph each_out outs ins
    where
      made : (n : ℕ) (outs ins : List (List Entry)) (one : Graph) → n ≡ one.n → outs ≡ one.outs → ins ≡ one.ins
          → (let made : Graph = record { n = n; weighted = one.weighted; outs = outs; ins = ins } in made ≡ one)
      made n outs ins one p q r = rw (p, q, r) refl

-- The image of edges, part by part.
use Rattle.std.proofs.Common.{◌≡◌, ℕ, ◌+◌, ◌-◌, ◌*◌, ◌/◌, ◌^◌, ◌<◌, ◌≤◌, Bool, List, [], ◌∷◌, ◌++◌, length, take, map, sum, refl, sym, ap, subst, ◌∙◌, append_assoc, arith}
use Rattle.std.specs.Prelude.{sum_by, All}
use Rattle.std.specs.List.{flat_map, range_with_len}
use Rattle.std.proofs.lemmas.List.{length-append, length-map}
use Rattle.std.proofs.lemmas.List.Elements.{All-same, All-weaker}
use Rattle.std.proofs.lemmas.List.FromFn.{length-map-range_with_len}
use Rattle.std.proofs.lemmas.List.Sums.{sum-map}
use Rattle.fg_base.specs.declared.plain.Dir.TheVariants.{Out, In}
use Rattle.fg_base.specs.declared.plain.Entry.{Entry}
use Rattle.fg_image.specs.Header.{pages_for}
use Rattle.fg_image.proofs.EdgeListsLaws.{graph_of_edges-is, count-ins, count-outs, edges-limits, edges-mirror, section-outs, source_of, target_of}
use Rattle.fg_image.proofs.GroupLaws.{group}
use Rattle.fg_image.proofs.HeaderBytesLaws.{length-header_bytes, pages_few}
use Rattle.fg_image.proofs.ImageBytesLaws.{degrees_fit, image-parts, graph_back, image_back, length-image, length-padded, long_bound, parts_of, small}
use Rattle.fg_image.proofs.IndexBytesLaws.{AreDegrees, length-direction_bytes}
use Rattle.fg_model.specs.Edges.{AreEdges, EdgeList, IsPairOf}
use Rattle.fg_model.specs.declared.edges.Pair.{Pair}
use Rattle.fg_model.specs.declared.graph.Graph.{Graph}
use Rattle.fg_model.specs.Graph.{IsWithinLimits}
use Rattle.fg_model.specs.Mirror.{IsMirror}
use Rattle.fg_image.specs.Image.{IsImage, Parts, graph_in}
use Rattle.fg_image.specs.Made.{graph_of_edges, image_bytes, header_for, padded, spelled_direction, spelled_entry, spelled_image, spelled_index, spelled_lists}
use Rattle.fg_image.specs.Making.{blanks, count_of, header_bytes, header_with, in_entry, index_bytes, ins_of, long_degrees, out_entry, outs_of, places_by, vertex_of}
use Rattle.fg_image.proofs.EdgeListsLaws.{graph_of_edges-is, graph_from}
use Rattle.fg_image.proofs.SectionBytesLaws.{degrees_of}

-- how many bytes an index has, and that they are few
pub record IndexLen (outs ins : List ℕ) : Type 0 where
  pub len : length (index_bytes outs ins) ≡ 2 * length outs + 8 + 8 * (long_degrees outs + long_degrees ins)
  pub few : length (index_bytes outs ins) ≤ 2 ^ 27
  pub few_longs : long_degrees outs + long_degrees ins ≤ 2 ^ 20

pub index_len-is : (outs ins : List ℕ) → length outs ≤ 2 ^ 24 → length ins ≡ length outs → sum outs ≤ 2 ^ 26 → sum ins ≤ 2 ^ 26 → IndexLen outs ins
index_len-is outs ins few_vertices same few_outs few_ins =
    let out_degrees : AreDegrees (length outs) (sum outs) outs = record { each = refl; all = refl; few = few_vertices; fit = degrees_fit outs few_outs } in
    let in_degrees : AreDegrees (length outs) (sum ins) ins = record { each = same; all = refl; few = few_vertices; fit = degrees_fit ins few_ins } in
    let first = length-direction_bytes (length outs) (sum outs) outs [] out_degrees in
    let second = length-direction_bytes (length outs) (sum ins) ins [] in_degrees in
    let whole = length-append (spelled_direction outs) (spelled_direction ins) in
    record {
      len = whole ∙ omega (arith, first, second);
      few = omega (arith, whole, first, second, long_bound outs, long_bound ins, few_vertices, few_outs, few_ins);
      few_longs = omega (arith, long_bound outs, long_bound ins, few_outs, few_ins);
    }

degrees-are : (rows : ℕ → List Entry) (count : ℕ → ℕ) → ((v : ℕ) → length (rows v) ≡ count v) → (vs : List ℕ) → map length (map rows vs) ≡ map count vs
degrees-are rows count same [] = refl
degrees-are rows count same (v ∷ vs) = led _ _ _ _ (same v) (degrees-are rows count same vs)
  where
    led : (a b : ℕ) (l m : List ℕ) → a ≡ b → l ≡ m → (a ∷ l) ≡ (b ∷ m)
    led a b l m p q = rw (p, q) refl

-- padding behind whole pages is padding of what stands behind them
pad-behind : (front bytes : List ℕ) (pages : ℕ) → length front ≡ pages * 4096
    → (front ++ bytes) ++ blanks (pages_for (length (front ++ bytes)) * 4096 - length (front ++ bytes)) ≡ front ++ padded bytes
pad-behind front bytes pages whole =
    let long = length-append front bytes in
    let same : pages_for (length (front ++ bytes)) * 4096 - length (front ++ bytes) ≡ pages_for (length bytes) * 4096 - length bytes = omega (arith, long, whole) in
    ap (λ (n : ℕ). (front ++ bytes) ++ blanks n) same ∙ append_assoc front bytes (blanks (pages_for (length bytes) * 4096 - length bytes))

-- the parts of the image of edges, as they are put one behind the other, where the pairs and their weights were read as these
pub record Stages (edges : EdgeList) (weighted : Bool) (pairs : List Pair) (outs ins places : List ℕ)
    (head with_outs padded_outs with_ins padded_ins with_first with_second image : List ℕ) : Type 0 where
  pub outs_counted : outs ≡ map (count_of Out edges.pairs) (range_with_len 0 edges.n)
  pub ins_counted : ins ≡ map (count_of In edges.pairs) (range_with_len 0 edges.n)
  pub places_are : places ≡ map (λ v. sum (take v ins)) (range_with_len 0 (length ins))
  pub head_is : head ≡ header_bytes (header_for (graph_of_edges edges))
  pub outs_are : with_outs ≡ head ++ flat_map (λ pair. spelled_entry weighted (out_entry pair)) pairs
  pub outs_padded : padded_outs ≡ with_outs ++ blanks (pages_for (length with_outs) * 4096 - length with_outs)
  pub ins_are : with_ins ≡ padded_outs ++ spelled_lists weighted (map (ins_of pairs) (range_with_len 0 (length places)))
  pub ins_padded : padded_ins ≡ with_ins ++ blanks (pages_for (length with_ins) * 4096 - length with_ins)
  pub first_are : with_first ≡ padded_ins ++ spelled_direction outs
  pub second_are : with_second ≡ with_first ++ spelled_direction ins
  pub image_is : image ≡ with_second ++ blanks (pages_for (length with_second) * 4096 - length with_second)

module _ (edges : EdgeList) (are : AreEdges edges) where
  out_degrees : degrees_of (graph_from edges).outs ≡ map (count_of Out edges.pairs) (range_with_len 0 edges.n)
  out_degrees = degrees-are (outs_of edges.pairs) (count_of Out edges.pairs) (λ v. length-map (group source_of v edges.pairs) out_entry) (range_with_len 0 edges.n)

  in_degrees : degrees_of (graph_from edges).ins ≡ map (count_of In edges.pairs) (range_with_len 0 edges.n)
  in_degrees = degrees-are (ins_of edges.pairs) (count_of In edges.pairs) (λ v. length-map (group target_of v edges.pairs) in_entry) (range_with_len 0 edges.n)

  all_outs : sum (degrees_of (graph_from edges).outs) ≡ length edges.pairs
  all_outs = sum-map (λ (entries : List Entry). length entries) (graph_from edges).outs ∙ count-outs edges are

  all_ins : sum (degrees_of (graph_from edges).ins) ≡ length edges.pairs
  all_ins = sum-map (λ (entries : List Entry). length entries) (graph_from edges).ins ∙ count-ins edges are

  -- the degrees that were counted
  pub record Counted (outs ins : List ℕ) : Type 0 where
    pub outs_are : outs ≡ map (count_of Out edges.pairs) (range_with_len 0 edges.n)
    pub ins_are : ins ≡ map (count_of In edges.pairs) (range_with_len 0 edges.n)

  -- and what comes of it
  pub record Sized (outs ins : List ℕ) : Type 0 where
    pub each_out : length outs ≡ edges.n
    pub each_in : length ins ≡ edges.n
    pub sum_outs : sum outs ≡ length edges.pairs
    pub sum_ins : sum ins ≡ length edges.pairs
    pub index : index_bytes outs ins ≡ spelled_index (graph_from edges)

  pub sized : (outs ins : List ℕ) → Counted outs ins → Sized outs ins
  sized outs ins counted =
      let out_same : outs ≡ degrees_of (graph_from edges).outs = counted.outs_are ∙ sym out_degrees in
      let in_same : ins ≡ degrees_of (graph_from edges).ins = counted.ins_are ∙ sym in_degrees in
      record {
        each_out = ap length counted.outs_are ∙ length-map-range_with_len (count_of Out edges.pairs) 0 edges.n;
        each_in = ap length counted.ins_are ∙ length-map-range_with_len (count_of In edges.pairs) 0 edges.n;
        sum_outs = ap sum out_same ∙ all_outs;
        sum_ins = ap sum in_same ∙ all_ins;
        index = ap (λ (l : List ℕ). index_bytes l ins) out_same ∙ ap (index_bytes (degrees_of (graph_from edges).outs)) in_same;
      }

  -- the places that were counted
  pub record Placed (places : List ℕ) : Type 0 where
    pub each : length places ≡ edges.n
    pub by : places ≡ places_by (length places) edges.pairs

  pub placed : (outs ins places : List ℕ) → Counted outs ins → places ≡ map (λ v. sum (take v ins)) (range_with_len 0 (length ins)) → Placed places
  placed outs ins places counted found =
      let each_in = (sized outs ins counted).each_in in
      let each : length places ≡ edges.n = ap length found ∙ length-map-range_with_len (λ v. sum (take v ins)) 0 (length ins) ∙ each_in in
      let by : places ≡ places_by edges.n edges.pairs =
      found ∙ ap (λ (n : ℕ). map (λ v. sum (take v ins)) (range_with_len 0 n)) each_in
      ∙ ap (λ (l : List ℕ). map (λ v. sum (take v l)) (range_with_len 0 edges.n)) counted.ins_are in
      record { each = each; by = by ∙ ap (λ (n : ℕ). places_by n edges.pairs) (sym each) }

  -- the header that is made of the counts is the image's
  pub header_made : (outs ins : List ℕ) → Counted outs ins
      → header_with edges.weighted edges.n (length edges.pairs) (length edges.pairs) (length (index_bytes outs ins)) ≡ header_for (graph_from edges)
  header_made outs ins counted =
      let graph = graph_from edges in
      ap (λ (m : ℕ). header_with edges.weighted edges.n m (length edges.pairs) (length (index_bytes outs ins))) (sym (count-outs edges are))
      ∙ ap (λ (m : ℕ). header_with edges.weighted edges.n (sum_by length graph.outs) m (length (index_bytes outs ins))) (sym (count-ins edges are))
      ∙ ap (λ (l : List ℕ). header_with edges.weighted edges.n (sum_by length graph.outs) (sum_by length graph.ins) (length l)) (sized outs ins counted).index

  pub image_made : (outs ins places head with_outs padded_outs with_ins padded_ins with_first with_second image : List ℕ)
      → Stages edges edges.weighted edges.pairs outs ins places head with_outs padded_outs with_ins padded_ins with_first with_second image → image ≡ spelled_image (graph_from edges)
  image_made outs ins places head with_outs padded_outs with_ins padded_ins with_first with_second image s =
      let graph = graph_from edges in
      let counted : Counted outs ins = record { outs_are = s.outs_counted; ins_are = s.ins_counted } in
      let size = sized outs ins counted in
      let place = placed outs ins places counted s.places_are in
      let out_section = spelled_lists edges.weighted graph.outs in
      let in_section = spelled_lists edges.weighted graph.ins in
      let first : head ≡ header_bytes (header_for graph) = s.head_is ∙ ap (λ (g : Graph). header_bytes (header_for g)) (graph_of_edges-is edges) in
      let first_long : length head ≡ 1 * 4096 = ap length first ∙ length-header_bytes (header_for graph) in
      let outs_there : with_outs ≡ head ++ out_section = s.outs_are ∙ ap (λ (l : List ℕ). head ++ l) (sym (section-outs edges are)) in
      let outs_end : padded_outs ≡ head ++ padded out_section =
      s.outs_padded ∙ ap (λ (l : List ℕ). l ++ blanks (pages_for (length l) * 4096 - length l)) outs_there ∙ pad-behind head out_section 1 first_long in
      let outs_long : length padded_outs ≡ (1 + pages_for (length out_section)) * 4096 =
      ap length outs_end ∙ length-append head (padded out_section) ∙ omega (arith, first_long, length-padded out_section) in
      let ins_there : with_ins ≡ padded_outs ++ in_section =
      s.ins_are ∙ ap (λ (n : ℕ). padded_outs ++ spelled_lists edges.weighted (map (ins_of edges.pairs) (range_with_len 0 n))) place.each in
      let ins_end : padded_ins ≡ padded_outs ++ padded in_section =
      s.ins_padded ∙ ap (λ (l : List ℕ). l ++ blanks (pages_for (length l) * 4096 - length l)) ins_there
      ∙ pad-behind padded_outs in_section (1 + pages_for (length out_section)) outs_long in
      let ins_long : length padded_ins ≡ (1 + pages_for (length out_section) + pages_for (length in_section)) * 4096 =
      ap length ins_end ∙ length-append padded_outs (padded in_section) ∙ omega (arith, outs_long, length-padded in_section) in
      let index_there : with_second ≡ padded_ins ++ spelled_index graph =
      s.second_are ∙ ap (λ (l : List ℕ). l ++ spelled_direction ins) s.first_are ∙ append_assoc padded_ins (spelled_direction outs) (spelled_direction ins)
      ∙ ap (λ (l : List ℕ). padded_ins ++ l) size.index in
      let end : image ≡ padded_ins ++ padded (spelled_index graph) =
      s.image_is ∙ ap (λ (l : List ℕ). l ++ blanks (pages_for (length l) * 4096 - length l)) index_there
      ∙ pad-behind padded_ins (spelled_index graph) (1 + pages_for (length out_section) + pages_for (length in_section)) ins_long in
      end
      ∙ ap (λ (l : List ℕ). l ++ padded (spelled_index graph)) (ins_end ∙ ap (λ (l : List ℕ). l ++ padded in_section) (outs_end ∙ ap (λ (l : List ℕ). l ++ padded out_section) first))
      ∙ sym (image-parts graph)

-- what was counted of the parts of edges that were read
pub counted_of : (edges : EdgeList) (are : AreEdges edges) (n : ℕ) (pairs : List Pair) (outs ins : List ℕ) → n ≡ edges.n → pairs ≡ edges.pairs
    → outs ≡ map (count_of Out pairs) (range_with_len 0 n) → ins ≡ map (count_of In pairs) (range_with_len 0 n) → Counted edges are outs ins
counted_of edges are n pairs outs ins same_n same_pairs outs_are ins_are = record {
  outs_are = outs_are ∙ ap (λ (k : ℕ). map (count_of Out pairs) (range_with_len 0 k)) same_n ∙ ap (λ (l : List Pair). map (count_of Out l) (range_with_len 0 edges.n)) same_pairs;
  ins_are = ins_are ∙ ap (λ (k : ℕ). map (count_of In pairs) (range_with_len 0 k)) same_n ∙ ap (λ (l : List Pair). map (count_of In l) (range_with_len 0 edges.n)) same_pairs;
}

-- the header of the image, where its numbers were read
pub header_told : (edges : EdgeList) (are : AreEdges edges) (weighted : Bool) (n count bytes : ℕ) (outs ins : List ℕ) → Counted edges are outs ins → weighted ≡ edges.weighted → n ≡ edges.n
    → count ≡ length edges.pairs → bytes ≡ length (index_bytes outs ins) → header_with weighted n count count bytes ≡ header_for (graph_of_edges edges)
header_told edges are weighted n count bytes outs ins counted same_weighted same_n same_count same_bytes =
    rw (same_weighted, same_n, same_count, same_bytes) (header_made edges are outs ins counted ∙ ap header_for (sym (graph_of_edges-is edges)))

-- every edge leads to a vertex that has a place
pub all_within : (edges : EdgeList) (are : AreEdges edges) (pairs : List Pair) (count : ℕ) → pairs ≡ edges.pairs → count ≡ edges.n → All (λ pair. vertex_of In pair < count) pairs
all_within edges are pairs count same_pairs same_count =
    All-same (λ pair. vertex_of In pair < count) pairs edges.pairs same_pairs
    (All-weaker (IsPairOf edges.n edges.weighted) (λ pair. vertex_of In pair < count) (λ pair is. omega (arith, is.target_below, same_count)) edges.pairs are.each)

-- the same where the parts of the edges were read
pub made_of : (edges : EdgeList) (are : AreEdges edges) (weighted : Bool) (pairs : List Pair) (outs ins places : List ℕ)
    (head with_outs padded_outs with_ins padded_ins with_first with_second image : List ℕ) → weighted ≡ edges.weighted → pairs ≡ edges.pairs
    → Stages edges weighted pairs outs ins places head with_outs padded_outs with_ins padded_ins with_first with_second image → image ≡ image_bytes edges
made_of edges are weighted pairs outs ins places head with_outs padded_outs with_ins padded_ins with_first with_second image same_weighted same_pairs s =
    let stages = λ (w : Bool) (l : List Pair). Stages edges w l outs ins places head with_outs padded_outs with_ins padded_ins with_first with_second image in
    let P : Bool → Type 0 = λ w. stages w pairs in
    let Q : List Pair → Type 0 = λ l. stages edges.weighted l in
    image_made edges are outs ins places head with_outs padded_outs with_ins padded_ins with_first with_second image (subst Q same_pairs (subst P same_weighted s))
    ∙ ap spelled_image (sym (graph_of_edges-is edges))

-- the image has the pages that its header tells, and they are few
pub record HasPages (edges : EdgeList) (pages : ℕ) : Type 0 where
  pub all : pages ≡ length (image_bytes edges) / 4096
  pub few : pages ≤ 2 ^ 19

pub pages_told : (edges : EdgeList) → AreEdges edges → HasPages edges (header_for (graph_of_edges edges)).pages
pages_told edges are =
    let graph = graph_of_edges edges in
    let W : Graph → Type 0 = λ g. IsWithinLimits g in
    let limits : IsWithinLimits graph = subst W (sym (graph_of_edges-is edges)) (edges-limits edges are) in
    record {
      all = omega (arith, length-image graph limits);
      few = pages_few graph.weighted graph.n _ _ _ (small graph limits);
    }

-- the image of edges: it is an image of so many vertices and entries, and its graph is that of the edges, within the limits and a mirror
pub record MadeImage (edges : EdgeList) (parts : Parts) : Type 0 where
  pub is_image : IsImage (image_bytes edges) parts
  pub graph : graph_in parts (image_bytes edges) ≡ graph_of_edges edges
  pub limits : IsWithinLimits (graph_of_edges edges)
  pub mirror : IsMirror (graph_of_edges edges)
  pub vertices : parts.header.n ≡ edges.n
  pub weighted : parts.index.weighted ≡ edges.weighted
  pub out_entries : parts.header.out_entries ≡ length edges.pairs
  pub in_entries : parts.header.in_entries ≡ length edges.pairs

pub made_image : (edges : EdgeList) → AreEdges edges → (parts : Parts) × MadeImage edges parts
made_image edges are =
    let graph = graph_from edges in
    let limits = edges-limits edges are in
    let same : graph ≡ graph_of_edges edges = sym (graph_of_edges-is edges) in
    let parts = parts_of graph in
    let P : Graph → Type 0 = λ g. IsImage (spelled_image g) parts in
    let Q : Graph → Type 0 = λ g. graph_in parts (spelled_image g) ≡ g in
    let R : Graph → Type 0 = λ g. IsWithinLimits g in
    let S : Graph → Type 0 = λ g. IsMirror g in (
      parts,
      record {
        is_image = subst P same (image_back graph limits);
        graph = subst Q same (graph_back graph limits);
        limits = subst R same limits;
        mirror = subst S same (edges-mirror edges are);
        vertices = refl;
        weighted = refl;
        out_entries = count-outs edges are;
        in_entries = count-ins edges are;
      },
    )

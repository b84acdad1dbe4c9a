-- An image as bytes: what it says, or the first thing that refuses it.
use Rattle.std.specs.Prelude.{◌≡◌, ◌≤◌, ℕ, Bool, Result, Ok, Err, List, ◌+◌, ◌*◌, ◌/◌, ◌%◌, ◌^◌, length, take, drop, sum}
use Rattle.fg_base.specs.declared.limits.TheConstants.{PAGE_BYTES, MAX_IMAGE_PAGES}
use Rattle.fg_base.specs.declared.plain.Dir.{Dir}
use Rattle.fg_base.specs.declared.refusal.Refusal.{Refusal}
use Rattle.fg_base.specs.declared.refusal.Refusal.TheVariants.{BadIndex}
use Rattle.fg_image.specs.declared.header.Header.{Header}
use Rattle.fg_image.specs.Front.{Front, front_at}
use Rattle.fg_image.specs.Header.{is_weighted, pages_for}
use Rattle.fg_image.specs.Lists.{graph_by}
use Rattle.fg_index.specs.ImageIndex.{ImageIndex, entry_bytes, index_at}
use Rattle.fg_model.specs.declared.graph.Graph.{Graph}
use Rattle.fg_stripe.specs.declared.layout.Layout.{Layout}
use Rattle.fg_stripe.specs.Held.{page_of}

-- an image's header, sections and index
pub record Parts : Type 0 where
  pub header : Header
  pub layout : Layout
  pub index : ImageIndex

abbrev pub parts_with : Header → Layout → ImageIndex → Parts
parts_with header layout index = record { header = header; layout = layout; index = index }

-- the degrees that were found as an index, or the place of the fault
abbrev pub found_index : Bool → Result (List ℕ × List ℕ) (Dir × ℕ) → Result ImageIndex Refusal
found_index weighted (Err (dir, place)) = Err (BadIndex dir place)
found_index weighted (Ok (outs, ins)) = Ok (record { weighted = weighted; outs = outs; ins = ins })

-- the index that these bytes of its section are, by the header
abbrev pub index_of : Header → List ℕ → Result ImageIndex Refusal
index_of header bytes = found_index (is_weighted header) (index_at header.n header.out_entries header.in_entries bytes)

-- the bytes of the index's section
abbrev pub index_in : Header → List ℕ → List ℕ
index_in header image = take header.index_bytes (drop (header.index_first * PAGE_BYTES) image)

abbrev pub with_index : Front → Result ImageIndex Refusal → Result Parts Refusal
with_index front (Err refusal) = Err refusal
with_index front (Ok index) = Ok (record { header = front.header; layout = front.layout; index = index })

abbrev pub with_front : List ℕ → Result Front Refusal → Result Parts Refusal
with_front image (Err refusal) = Err refusal
with_front image (Ok front) = with_index front (index_of front.header (index_in front.header image))

-- what an image of so many pages says, or its first refusal: the header, the sections, the index
unfoldable pub parts_in : ℕ → List ℕ → Result Parts Refusal
parts_in pages image = with_front image (front_at pages (page_of image 0))

-- the image says these parts
abbrev pub AreParts : List ℕ → Parts → Type 0
AreParts image parts = parts_in (length image / PAGE_BYTES) image ≡ Ok parts

-- bytes are an image: whole pages, from 2 to `MAX_IMAGE_PAGES`, whose header, sections and index are accepted
pub record IsImage (image : List ℕ) (parts : Parts) : Type 0 where
  pub whole : length image % PAGE_BYTES ≡ 0
  pub some_pages : 2 ≤ length image / PAGE_BYTES
  pub few_pages : length image / PAGE_BYTES ≤ MAX_IMAGE_PAGES
  pub accepted : AreParts image parts

-- the graph of an image with these parts
abbrev pub graph_in : Parts → List ℕ → Graph
graph_in parts image = graph_by parts.layout parts.index image

-- the sections and the index of an accepted image agree, whatever its bytes: each vertex has its two degrees, within the
-- limits, and the sections lie one behind the other within the pages
pub record IndexFits (layout : Layout) (index : ImageIndex) : Type 0 where
  pub few_vertices : length index.outs ≤ 2 ^ 24
  pub same_vertices : length index.ins ≡ length index.outs
  pub few_outs : sum index.outs ≤ 2 ^ 26
  pub few_ins : sum index.ins ≤ 2 ^ 26
  pub few_pages : layout.pages ≤ MAX_IMAGE_PAGES
  pub outs_first : layout.out_first ≡ 1
  pub ins_behind : layout.in_first ≡ 1 + pages_for (sum index.outs * entry_bytes index.weighted)
  pub within : layout.in_first + pages_for (sum index.ins * entry_bytes index.weighted) ≤ layout.pages

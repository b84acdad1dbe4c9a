-- What a check of an image finds: the first of its faults, or none.
use Rattle.std.specs.Prelude.{◌≡◌, ◌<◌, ◌⊎◌, ℕ, Option, Some, None, Result, Ok, Err, List, [], ◌∷◌, ◌+◌, ◌-◌, ◌*◌, ◌/◌, ◌^◌, ◌≤◌, drop, find, length, take, if◌then◌else◌}
use Rattle.std.specs.Option.{option_or}
use Rattle.std.specs.List.{flat_map, range_with_len}
use Rattle.std.specs.List.Sorted.{IsPermutation}
use Rattle.fg_base.specs.declared.limits.TheConstants.{PAGE_BYTES, MAX_IMAGE_PAGES}
use Rattle.fg_base.specs.declared.plain.BadEdge.{BadEdge}
use Rattle.fg_base.specs.declared.plain.Need.{Need}
use Rattle.fg_base.specs.declared.refusal.Refusal.{Refusal}
use Rattle.fg_base.specs.declared.refusal.Refusal.TheVariants.{BadEdge as IsBadEdge, BadPadding, Memory, NotMirror}
use Rattle.fg_image.specs.declared.checking.Section.{Section}
use Rattle.fg_image.specs.declared.header.Header.{Header}
use Rattle.fg_image.specs.Header.{pages_for, size_of}
use Rattle.fg_image.specs.Image.{Parts, graph_in}
use Rattle.fg_model.specs.declared.graph.Graph.{Graph}
use Rattle.fg_model.specs.Graph.{row}
use Rattle.fg_model.specs.Iteration.{is_bad}
use Rattle.fg_model.specs.Mirror.{turned_to}
use Rattle.fg_model.specs.VertexRun.{edges_of}
use Rattle.fg_stripe.specs.declared.layout.Layout.{Layout}
use Rattle.fg_stripe.specs.Label.{is_blank}

-- the first entry whose target is no vertex: by vertex, the out-list before the in-list, then by place
abbrev pub bad_edge_in : Graph → Option BadEdge
bad_edge_in graph = find (is_bad graph.n) (flat_map (edges_of Need.Both graph) (range_with_len 0 graph.n))

-- the sections of the out-lists, of the in-lists and of the index
abbrev pub sections_in : Header → Layout → List Section
sections_in header layout =
    record { first = layout.out_first; bytes = header.out_entries * size_of header }
    ∷ record { first = layout.in_first; bytes = header.in_entries * size_of header }
    ∷ record { first = header.index_first; bytes = header.index_bytes }
    ∷ []

-- the bytes behind a section's end, up to that of its last page
abbrev pub padding_of : List ℕ → Section → List ℕ
padding_of image section = take (pages_for section.bytes * PAGE_BYTES - section.bytes) (drop (section.first * PAGE_BYTES + section.bytes) image)

-- the page with the first of these bytes, where they aren't all zeros
abbrev pub bad_page : List ℕ → Section → Option ℕ
bad_page image section =
    if is_blank (padding_of image section) then None else Some (section.first + section.bytes / PAGE_BYTES)

-- the first such page
abbrev pub bad_page_in : List ℕ → List Section → Option ℕ
bad_page_in image [] = None
bad_page_in image (section ∷ sections) = option_or (bad_page image section) (bad_page_in image sections)

-- a section whose pages are in the image
pub record IsSectionOf (image : List ℕ) (section : Section) : Type 0 where
  pub few : section.bytes ≤ 2 ^ 40
  pub few_pages : section.first + pages_for section.bytes ≤ MAX_IMAGE_PAGES
  pub within : (section.first + pages_for section.bytes) * PAGE_BYTES ≤ length image

-- the in-list of v holds, in some order and with the weights, just the turned out-entries that lead to v
abbrev pub IsMirrored : Graph → ℕ → Type 0
IsMirrored graph v = IsPermutation (row graph.ins v) (turned_to graph v)

-- v is the first vertex of which that isn't so
pub record IsFirstUnlike (graph : Graph) (v : ℕ) : Type 0 where
  pub below : v < graph.n
  pub mirrored : (u : ℕ) → u < v → IsMirrored graph u
  pub unlike : IsMirrored graph v → ⊥

-- the first vertex that isn't mirrored, where there is one
abbrev pub IsUnlikeAt : Graph → Option ℕ → Type 0
IsUnlikeAt graph None = (v : ℕ) → v < graph.n → IsMirrored graph v
IsUnlikeAt graph (Some v) = IsFirstUnlike graph v

-- an image with these parts has no fault
pub record IsFaultless (parts : Parts) (image : List ℕ) : Type 0 where
  pub leads : bad_edge_in (graph_in parts image) ≡ None
  pub padded : bad_page_in image (sections_in parts.header parts.layout) ≡ None
  pub mirrored : IsUnlikeAt (graph_in parts image) None

-- this is its first one: bad edges come before padding, and padding before lists that aren't mirrored
abbrev pub IsFirstFault : Parts → List ℕ → Refusal → Type 0
IsFirstFault parts image (IsBadEdge edge) = bad_edge_in (graph_in parts image) ≡ Some edge
IsFirstFault parts image (BadPadding page) =
    (bad_edge_in (graph_in parts image) ≡ None) × (bad_page_in image (sections_in parts.header parts.layout) ≡ Some page)
IsFirstFault parts image (NotMirror v) =
    (bad_edge_in (graph_in parts image) ≡ None)
    × (bad_page_in image (sections_in parts.header parts.layout) ≡ None)
    × IsFirstUnlike (graph_in parts image) v
IsFirstFault parts image refusal = ⊥

-- the answer is this fault, or want of memory
abbrev pub IsFoundOr : {A : Type 0} → Refusal → Result A Refusal → Type 0
IsFoundOr fault (Ok done) = ⊥
IsFoundOr fault (Err found) = (found ≡ fault) ⊎ (found ≡ Memory)

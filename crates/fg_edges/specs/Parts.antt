-- The segments of a list, all together.
use Rattle.std.specs.Prelude.{◌≡◌, ℕ, Bool, List, [], ◌∷◌}
use Rattle.std.specs.List.{flat_map}
use Rattle.fg_base.specs.declared.plain.Entry.{Entry}
use Rattle.fg_edges.specs.declared.segment.Segment.{Segment}
use Rattle.fg_edges.specs.Segment.{count_of, segment_entries}
use Rattle.fg_edges.specs.Segments.{ListRest, IsNext, behind}
use Rattle.fg_stripe.specs.Held.{page_of}

-- these are the segments of what is left of a list
abbrev pub AreParts : ListRest → List Segment → Type 0
AreParts rest [] = rest.count ≡ 0
AreParts rest (s ∷ ss) = IsNext rest s × AreParts (behind rest (count_of rest.weighted s)) ss

-- their entries, each segment's out of its own page of the image
abbrev pub parts_entries : Bool → List ℕ → List Segment → List Entry
parts_entries weighted image ss = flat_map (λ s. segment_entries weighted (page_of image s.page) s) ss

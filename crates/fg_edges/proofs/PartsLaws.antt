-- The segments of a list hold its entries: nothing is doubled, and nothing is left out.
use Rattle.std.proofs.Common.{◌≡◌, ℕ, ◌+◌, ◌-◌, ◌*◌, ◌≤◌, List, [], ◌∷◌, ◌++◌, sym, ap, ◌∙◌, arith}
use Rattle.fg_base.specs.declared.plain.Entry.{Entry}
use Rattle.fg_edges.specs.Parts.{AreParts, parts_entries}
use Rattle.fg_edges.specs.declared.segment.Segment.{Segment}
use Rattle.fg_edges.specs.Segment.{count_of, segment_entries}
use Rattle.fg_edges.specs.Segments.{IsNext, ListRest, behind}
use Rattle.fg_image.proofs.EntryLaws.{entries_at-append, entries_on-page}
use Rattle.fg_image.specs.Lists.{entries_at}
use Rattle.fg_index.specs.ImageIndex.{entry_bytes}
use Rattle.fg_stripe.specs.Held.{page_of}

-- a segment's entries, out of the bytes of its page, are the next of the list
pub next_entries : (image : List ℕ) (rest : ListRest) (s : Segment) → IsNext rest s
    → segment_entries rest.weighted (page_of image s.page) s ≡ entries_at rest.weighted image rest.at (count_of rest.weighted s)
next_entries image rest s next =
    let count = count_of rest.weighted s in
    let within : s.from + count * entry_bytes rest.weighted ≤ 4096 = omega (arith, next.is_segment.inside.whole, next.is_segment.inside.inside) in
    sym (entries_on-page rest.weighted image s.page s.from count within)
    ∙ ap (λ (at : ℕ). entries_at rest.weighted image at count) next.on_its_page

pub parts_are_the_list : (image : List ℕ) (rest : ListRest) (ss : List Segment) → AreParts rest ss
    → parts_entries rest.weighted image ss ≡ entries_at rest.weighted image rest.at rest.count
parts_are_the_list image rest [] none = ap (entries_at rest.weighted image rest.at) (sym none)
parts_are_the_list image rest (s ∷ ss) (next, others) =
    let count = count_of rest.weighted s in
    let there = next.there in
    let all : count + (rest.count - count) ≡ rest.count = omega (arith, there) in
    ap (λ (first : List Entry). first ++ parts_entries rest.weighted image ss) (next_entries image rest s next)
    ∙ ap (λ (last : List Entry). entries_at rest.weighted image rest.at count ++ last) (parts_are_the_list image (behind rest count) ss others)
    ∙ sym (entries_at-append rest.weighted image rest.at count (rest.count - count))
    ∙ ap (entries_at rest.weighted image rest.at) all

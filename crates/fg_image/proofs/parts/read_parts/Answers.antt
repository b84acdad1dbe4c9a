use Rattle.std.proofs.Common.{◌∙◌, sym, arith}
use Rattle.std.proofs.lemmas.List.{length-take-le}
use Rattle.fg_image.proofs.PartsLaws.{header_refused, index_fits, index_refused, index_within, parts_found, sections_pages, sections_refused}
use Rattle.fg_image.proofs.parts.read_parts.Goals as goal

pub slice_bounds-read-end : goal.slice_bounds-read-end
slice_bounds-read-end c = sym (length-take-le 4096 c.args.image.now (omega (arith, c.requires.whole, c.requires.some)))

pub read-requires : goal.read-requires
read-requires c = length-take-le 4096 c.args.image.now (omega (arith, c.requires.whole, c.requires.some))

pub returns-in-Err-clause-refusal : goal.returns-in-Err-clause-refusal
returns-in-Err-clause-refusal c = λ other. header_refused c.args.pages c.args.image.now c.in-Err.refusal c.in-Err.ensures.value

pub returns-in-Err-sections-clause-refusal : goal.returns-in-Err-sections-clause-refusal
returns-in-Err-sections-clause-refusal c = λ other.
    sections_refused c.args.pages c.args.image.now c.in-Ok.header c.in-Err-sections.refusal c.in-Ok.ensures.value c.in-Err-sections.ensures.value

pub index_in-bytes-requires : goal.index_in-bytes-requires
index_in-bytes-requires c =
    let pages = sections_pages c.in-Ok.header c.args.pages c.in-Ok-sections.layout c.in-Ok-sections.ensures.value in
    let fits = c.in-Ok-sections.ensures.fits c.in-Ok.ensures.counted c.requires.few in
    omega (arith, pages, index_within c.in-Ok.header c.in-Ok-sections.layout fits, c.requires.whole)

pub returns-in-Ok-read-clause-parts : goal.returns-in-Ok-read-clause-parts
returns-in-Ok-read-clause-parts c =
    parts_found c.args.pages c.args.image.now c.in-Ok.header c.in-Ok-sections.layout c.in-Ok.ensures.value c.in-Ok-sections.ensures.value c.in-Ok-read.index
    (c.in-Ok-read.ensures.weighted ∙ c.is_weighted-weighted.ensures)
    (rw (← c.index_in-bytes.ensures) c.in-Ok-read.ensures.found)

pub returns-in-Ok-read-clause-pages : goal.returns-in-Ok-read-clause-pages
returns-in-Ok-read-clause-pages c = sections_pages c.in-Ok.header c.args.pages c.in-Ok-sections.layout c.in-Ok-sections.ensures.value

pub returns-in-Ok-read-clause-fits : goal.returns-in-Ok-read-clause-fits
returns-in-Ok-read-clause-fits c =
    index_fits c.in-Ok.header c.in-Ok-sections.layout c.in-Ok-read.index (c.in-Ok-sections.ensures.fits c.in-Ok.ensures.counted c.requires.few)
    (c.in-Ok-read.ensures.weighted ∙ c.is_weighted-weighted.ensures)
    c.in-Ok-read.ensures.each_out c.in-Ok-read.ensures.each_in c.in-Ok-read.ensures.sum_out c.in-Ok-read.ensures.sum_in

pub returns-in-Err-read-clause-refusal : goal.returns-in-Err-read-clause-refusal
returns-in-Err-read-clause-refusal c =
    index_refused c.args.pages c.args.image.now c.in-Ok.header c.in-Ok-sections.layout c.in-Ok.ensures.value c.in-Ok-sections.ensures.value c.in-Err-read.refusal
    (rw (← c.index_in-bytes.ensures) c.in-Err-read.ensures.fault)

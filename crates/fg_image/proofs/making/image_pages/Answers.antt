use Rattle.std.proofs.Common.{ap, ◌∙◌, arith}
use Rattle.fg_image.specs.declared.header.Header.{Header}
use Rattle.fg_image.proofs.MakingLaws.{pages_told}
use Rattle.fg_image.proofs.making.image_pages.Goals as goal

pub returns-clause-pages : goal.returns-clause-pages
returns-clause-pages c =
    let told = pages_told c.args.edges.now c.measure.ensures.within in
    ap (λ (header : Header). header.pages) c.in_ok-measures.ensures.header ∙ told.all

pub returns-clause-few : goal.returns-clause-few
returns-clause-few c =
    let told = pages_told c.args.edges.now c.measure.ensures.within in
    omega (arith, told.few, ap (λ (header : Header). header.pages) c.in_ok-measures.ensures.header)

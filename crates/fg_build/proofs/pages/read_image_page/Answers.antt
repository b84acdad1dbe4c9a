use Rattle.fg_build.proofs.PageLaws.{page_read_is, page_told}
use Rattle.fg_build.proofs.pages.read_image_page.Goals as goal

pub read_page-requires-clause-told : goal.read_page-requires-clause-told
read_page-requires-clause-told g c =
    page_told g.D.Drive.told c.args.layout.now c.args.drives.now c.args.page c.place-place.result c.requires.striped c.requires.told c.requires.page
    c.place-place.ensures.value

pub returns-clause-bytes : goal.returns-clause-bytes
returns-clause-bytes g c =
    page_read_is g.D.Drive.held c.args.drives.now c.args.layout.now.drives c.args.layout.now.unit c.args.page c.place-place.result c.read_page.new.into
    c.requires.told.0 c.place-place.ensures.value c.in-Ok.ensures.bytes

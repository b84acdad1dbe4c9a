use Rattle.fg_build.proofs.CallLaws.{content_behind}
use Rattle.fg_build.proofs.FrontLaws.{front_found, header_at-content, header_refused, sections_of-content, sections_pages, sections_refused}
use Rattle.fg_outside.specs.Drives.{all_told}
use Rattle.fg_stripe.specs.Held.{page_on}
use Rattle.fg_build.proofs.FrontLaws.{header_at-behind, outside-behind, sections_of-behind}
use Rattle.fg_build.proofs.front.read_front.Goals as goal

pub returns-in-Err-read-clause-answer : goal.returns-in-Err-read-clause-answer
returns-in-Err-read-clause-answer g c =
    let unit = c.args.striping.now.unit in
    header_refused (all_told g.D.Drive.held c.args.drives.now) (λ helds. page_on unit helds 0) c.read_image_page.new.into c.args.striping.now.pages c.in_default.ensures.bytes
    c.in-Err-read.refusal c.in-Err-read.ensures.value

pub returns-in-Err-read-clause-reads : goal.returns-in-Err-read-clause-reads
returns-in-Err-read-clause-reads g c =
    content_behind g.D.Drive.faults g.D.Drive.log _ c.in-Err-read.refusal _ _ (header_at-content c.read_image_page.new.into _ c.in-Err-read.ensures.value) c.in_default.ensures.reads

pub returns-in-Ok-sections-clause-answer : goal.returns-in-Ok-sections-clause-answer
returns-in-Ok-sections-clause-answer g c =
    let unit = c.args.striping.now.unit in
    front_found (all_told g.D.Drive.held c.args.drives.now) (λ helds. page_on unit helds 0) c.read_image_page.new.into c.args.striping.now.pages c.in_default.ensures.bytes
    c.in-Ok.header c.in-Ok.ensures.value c.in-Ok-sections.layout c.in-Ok-sections.ensures.value

pub returns-in-Ok-sections-clause-fits : goal.returns-in-Ok-sections-clause-fits
returns-in-Ok-sections-clause-fits g c = c.in-Ok-sections.ensures.fits c.in-Ok.ensures.counted c.requires.striped.few_pages

pub returns-in-Ok-sections-clause-pages : goal.returns-in-Ok-sections-clause-pages
returns-in-Ok-sections-clause-pages g c = sections_pages c.in-Ok.header c.args.striping.now.pages c.in-Ok-sections.layout c.in-Ok-sections.ensures.value

pub returns-in-Err-sections-clause-answer : goal.returns-in-Err-sections-clause-answer
returns-in-Err-sections-clause-answer g c =
    let unit = c.args.striping.now.unit in
    sections_refused (all_told g.D.Drive.held c.args.drives.now) (λ helds. page_on unit helds 0) c.read_image_page.new.into c.args.striping.now.pages c.in_default.ensures.bytes
    c.in-Ok.header c.in-Ok.ensures.value c.in-Err-sections.refusal c.in-Err-sections.ensures.value

pub returns-in-Err-sections-clause-reads : goal.returns-in-Err-sections-clause-reads
returns-in-Err-sections-clause-reads g c =
    content_behind g.D.Drive.faults g.D.Drive.log _ c.in-Err-sections.refusal _ _
    (sections_of-content c.in-Ok.header c.args.striping.now.pages _ c.in-Err-sections.ensures.value) c.in_default.ensures.reads

pub returns-in-Err-clause-behind : goal.returns-in-Err-clause-behind
returns-in-Err-clause-behind g c = outside-behind c.in-Err.refusal c.in-Err.ensures.fault

pub returns-in-Err-read-clause-behind : goal.returns-in-Err-read-clause-behind
returns-in-Err-read-clause-behind g c = header_at-behind c.read_image_page.new.into c.in-Err-read.refusal c.in-Err-read.ensures.value

pub returns-in-Err-sections-clause-behind : goal.returns-in-Err-sections-clause-behind
returns-in-Err-sections-clause-behind g c =
    sections_of-behind c.in-Ok.header c.args.striping.now.pages c.in-Err-sections.refusal c.in-Err-sections.ensures.value

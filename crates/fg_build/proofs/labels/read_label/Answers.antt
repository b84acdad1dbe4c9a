-- The label of one drive: its pages are counted, and its page 0 is read.
use Rattle.std.proofs.Common.{◌∙◌, ◌∷◌, [], sym, refl, arith}
use Rattle.std.proofs.lemmas.Option.{IfSome_then}
use Rattle.fg_build.specs.OpeningReads.{alone}
use Rattle.fg_build.proofs.CallLaws.{IfSome-both, Keeps-more, failed_before, none_read, content_behind, ReadUntil-more, ReadUntil-before, AllRead-more}
use Rattle.fg_build.proofs.LabelLaws.{label_fits, label_on-told, told_here, told_then}
use Rattle.fg_outside.specs.Drives.{all_told}
use Rattle.fg_build.proofs.ToldLaws.{EachSame-alone, ToldAlone-then, ToldBy-alone}
use Rattle.fg_build.proofs.labels.read_label.Goals as goal

pub returns-in_default-clause-reads : goal.returns-in_default-clause-reads
returns-in_default-clause-reads g c =
    failed_before g.D.Drive.faults g.D.Drive.log (alone c.args.drive 0 ∷ []) c.args.drive _ _ c.in_default.ensures.rose_first c.count_pages.ensures.log

pub returns-then-pages-eq0-clause-reads : goal.returns-then-pages-eq0-clause-reads
returns-then-pages-eq0-clause-reads g c =
    ReadUntil-before g.D.Drive.faults g.D.Drive.log [] (alone c.args.drive 0 ∷ []) _ _ _
    (content_behind g.D.Drive.faults g.D.Drive.log [] _ _ _ tt (none_read g.D.Drive.faults g.D.Drive.log _ _ c.in-Ok.ensures.none_rose c.count_pages.ensures.log))

pub read_page-requires-clause-told : goal.read_page-requires-clause-told
read_page-requires-clause-told g c =
    λ other.
    let told = told_here g.D.Drive.told c.args.drive c.in-Ok.pages c.args.drives.now c.count_pages.new.drives c.requires c.in-Ok.ensures.told other in
    omega (arith, told, c.if-pages-eq0.false)

pub returns-in_default-read_page-clause-keeps : goal.returns-in_default-read_page-clause-keeps
returns-in_default-read_page-clause-keeps g c =
    Keeps-more _ _ _ _ c.count_pages.new.drives _
    (record { same_held = c.count_pages.ensures.held; same_room = c.count_pages.ensures.room; sure = c.count_pages.ensures.roomy })
    (record { same_held = c.read_page.ensures.held; same_room = c.read_page.ensures.room; sure = c.read_page.ensures.roomy })

pub returns-in_default-read_page-clause-reads : goal.returns-in_default-read_page-clause-reads
returns-in_default-read_page-clause-reads g c =
    ReadUntil-more g.D.Drive.faults g.D.Drive.log [] (alone c.args.drive 0 ∷ []) _ _ c.count_pages.new.drives _
    (none_read g.D.Drive.faults g.D.Drive.log _ _ c.in-Ok.ensures.none_rose c.count_pages.ensures.log)
    (record { counts = c.in_default-read_page.ensures.rose_first; logs = c.in_default-read_page.ensures.log_err })

pub returns-in_default-read-clause-answer : goal.returns-in_default-read-clause-answer
returns-in_default-read-clause-answer g c =
    IfSome_then (all_told g.D.Drive.held c.args.drives.now)
    (label_on-told g.D.Drive.held c.args.drives.now c.count_pages.new.drives c.args.drive c.in-Ok.pages c.read_page.new.into
    c.count_pages.ensures.held c.if-pages-eq0.false c.in-Ok.ensures.count c.in-Ok-read_page.ensures.bytes)
    (λ helds is. (is ∙ sym c.read.ensures ∙ c.in_default-read.is, refl))

pub returns-in_default-read-clause-keeps : goal.returns-in_default-read-clause-keeps
returns-in_default-read-clause-keeps g c =
    Keeps-more _ _ _ _ c.count_pages.new.drives _
    (record { same_held = c.count_pages.ensures.held; same_room = c.count_pages.ensures.room; sure = c.count_pages.ensures.roomy })
    (record { same_held = c.read_page.ensures.held; same_room = c.read_page.ensures.room; sure = c.read_page.ensures.roomy })

pub returns-in_default-read-clause-reads : goal.returns-in_default-read-clause-reads
returns-in_default-read-clause-reads g c =
    content_behind g.D.Drive.faults g.D.Drive.log _ _ _ _ tt
    (AllRead-more g.D.Drive.faults g.D.Drive.log [] (alone c.args.drive 0 ∷ []) _ c.count_pages.new.drives _
    (none_read g.D.Drive.faults g.D.Drive.log _ _ c.in-Ok.ensures.none_rose c.count_pages.ensures.log)
    (record { counts = c.in-Ok-read_page.ensures.none_rose; logs = c.in-Ok-read_page.ensures.log }))

pub returns-clause-answer : goal.returns-clause-answer
returns-clause-answer g c =
    IfSome-both (all_told g.D.Drive.held c.args.drives.now) _ _ _
    (λ helds is count. (is ∙ sym c.read.ensures ∙ c.in-Some.is, count))
    (label_on-told g.D.Drive.held c.args.drives.now c.count_pages.new.drives c.args.drive c.in-Ok.pages c.read_page.new.into
    c.count_pages.ensures.held c.if-pages-eq0.false c.in-Ok.ensures.count c.in-Ok-read_page.ensures.bytes)
    c.in-Ok.ensures.count

pub returns-clause-fits : goal.returns-clause-fits
returns-clause-fits g c =
    label_fits c.read_page.new.into c.in-Some.label (sym c.in-Some.is ∙ c.read.ensures)

pub returns-clause-told : goal.returns-clause-told
returns-clause-told g c =
    told_then g.D.Drive.told c.args.drive c.in-Ok.pages _ c.count_pages.new.drives _ c.in-Ok.ensures.told c.read_page.ensures.same_told

pub returns-clause-keeps : goal.returns-clause-keeps
returns-clause-keeps g c =
    Keeps-more _ _ _ _ c.count_pages.new.drives _
    (record { same_held = c.count_pages.ensures.held; same_room = c.count_pages.ensures.room; sure = c.count_pages.ensures.roomy })
    (record { same_held = c.read_page.ensures.held; same_room = c.read_page.ensures.room; sure = c.read_page.ensures.roomy })

pub returns-clause-reads : goal.returns-clause-reads
returns-clause-reads g c =
    AllRead-more g.D.Drive.faults g.D.Drive.log [] (alone c.args.drive 0 ∷ []) _ c.count_pages.new.drives _
    (none_read g.D.Drive.faults g.D.Drive.log _ _ c.in-Ok.ensures.none_rose c.count_pages.ensures.log)
    (record { counts = c.in-Ok-read_page.ensures.none_rose; logs = c.in-Ok-read_page.ensures.log })

pub returns-in_default-clause-told_err : goal.returns-in_default-clause-told_err
returns-in_default-clause-told_err g c = (refl, EachSame-alone g.D.Drive.told c.args.drive _ _ c.in_default.ensures.told_err)

pub returns-then-pages-eq0-clause-told_err : goal.returns-then-pages-eq0-clause-told_err
returns-then-pages-eq0-clause-told_err g c = (refl, ToldBy-alone g.D.Drive.told c.args.drive _ _ _ c.in-Ok.ensures.told)

pub returns-in_default-read_page-clause-told_err : goal.returns-in_default-read_page-clause-told_err
returns-in_default-read_page-clause-told_err g c = (
  refl,
  ToldAlone-then g.D.Drive.told c.args.drive _ c.count_pages.new.drives _ (ToldBy-alone g.D.Drive.told c.args.drive _ _ _ c.in-Ok.ensures.told) c.read_page.ensures.same_told,
)

pub returns-in_default-read-clause-told_err : goal.returns-in_default-read-clause-told_err
returns-in_default-read-clause-told_err g c = (
  refl,
  ToldAlone-then g.D.Drive.told c.args.drive _ c.count_pages.new.drives _ (ToldBy-alone g.D.Drive.told c.args.drive _ _ _ c.in-Ok.ensures.told) c.read_page.ensures.same_told,
)

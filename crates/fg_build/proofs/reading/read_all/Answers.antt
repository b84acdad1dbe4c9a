use Rattle.std.proofs.Common.{◌≡◌, ◌∙◌, IfSome, List, subst, sym, ap, length}
use Rattle.std.proofs.lemmas.Result.{IfOk-weaker}
use Rattle.std.proofs.lemmas.Option.{IfSome_then}
use Rattle.fg_build.specs.OpeningReads.{whole_reads}
use Rattle.fg_build.specs.Pages.{pages_at}
use Rattle.fg_build.proofs.CallLaws.{ReadFor-first, whole_written}
use Rattle.fg_build.proofs.ImageLaws.{image_all}
use Rattle.fg_outside.specs.Drives.{LogsGrewByFirst, RoomyKept, all_told}
use Rattle.fg_stripe.specs.Held.{image_on}
use Rattle.fg_build.proofs.reading.read_all.Goals as goal

pub returns-clause-image : goal.returns-clause-image
returns-clause-image g c =
    let held = g.D.Drive.held in
    let unit = c.args.opened.now.layout.unit in
    let pages = c.args.opened.now.layout.pages in
    let lent = c.deref_mut.result.now in
    IfOk-weaker c.read_pages.result
    (λ image. IfSome (all_told held lent) (λ helds. image.items ≡ pages_at unit helds 0 pages))
    (λ image. IfSome (all_told held c.args.drives.now.items) (λ helds. image.items ≡ image_on unit pages helds))
    (λ image has.
    let P : List g.row.D.Denot → Type 0 = λ olds. IfSome (all_told held olds) (λ helds. image.items ≡ image_on unit pages helds) in
    subst P c.deref_mut.ensures.value (IfSome_then (all_told held lent) has (λ helds is. is ∙ image_all unit pages helds)))
    c.read_pages.ensures.bytes

pub returns-clause-reads : goal.returns-clause-reads
returns-clause-reads g c =
    let log = g.D.Drive.log in
    let items = c.args.drives.now.items in
    let lent = c.deref_mut.result.now in
    let new = c.read_pages.new.drives in
    let reads = whole_reads c.args.opened.now.layout in
    let same : length new ≡ length items = c.read_pages.auto.drives ∙ ap length c.deref_mut.ensures.value in
    let written = whole_written items new c.args.drives.now.len (sym c.deref_mut.ensures.len ∙ ap length c.deref_mut.ensures.value) same in
    let P : List g.row.D.Denot → Type 0 = λ news. LogsGrewByFirst log reads items news in
    let Q : List g.row.D.Denot → Type 0 = λ olds. LogsGrewByFirst log reads olds new in
    subst P (sym written) (subst Q c.deref_mut.ensures.value (ReadFor-first g.D.Drive.faults log reads lent new c.read_pages.result c.read_pages.ensures.reads))

pub returns-clause-sure : goal.returns-clause-sure
returns-clause-sure g c =
    let items = c.args.drives.now.items in
    let lent = c.deref_mut.result.now in
    let new = c.read_pages.new.drives in
    let same : length new ≡ length items = c.read_pages.auto.drives ∙ ap length c.deref_mut.ensures.value in
    let written = whole_written items new c.args.drives.now.len (sym c.deref_mut.ensures.len ∙ ap length c.deref_mut.ensures.value) same in
    let P : List g.row.D.Denot → Type 0 = λ news. RoomyKept g.D.Drive.room g.D.Drive.faults items news in
    let Q : List g.row.D.Denot → Type 0 = λ olds. RoomyKept g.D.Drive.room g.D.Drive.faults olds new in
    subst P (sym written) (subst Q c.deref_mut.ensures.value c.read_pages.ensures.keeps.sure)

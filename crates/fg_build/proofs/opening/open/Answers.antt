use Rattle.std.proofs.Common.{◌≡◌, ◌∙◌, IfSome, List, subst, sym, ap, length}
use Rattle.std.proofs.lemmas.Option.{IfSome_then}
use Rattle.fg_build.specs.OpeningReads.{opening_reads}
use Rattle.fg_build.proofs.CallLaws.{ReadFor-first, whole_written}
use Rattle.fg_outside.specs.Drives.{LogsGrewByFirst, all_told}
use Rattle.fg_build.proofs.opening.open.Goals as goal

pub returns-clause-reads : goal.returns-clause-reads
returns-clause-reads g c =
    let held = g.D.Drive.held in
    let log = g.D.Drive.log in
    let items = c.args.drives.now.items in
    let lent = c.deref_mut.result.now in
    let new = c.open_drives.new.drives in
    let same : length new ≡ length items = c.open_drives.auto.drives ∙ ap length c.deref_mut.ensures.value in
    let written = whole_written items new c.args.drives.now.len (sym c.deref_mut.ensures.len ∙ ap length c.deref_mut.ensures.value) same in
    let P : List g.row.D.Denot → Type 0 = λ news. IfSome (all_told held items) (λ helds. LogsGrewByFirst log (opening_reads helds) items news) in
    let Q : List g.row.D.Denot → Type 0 = λ olds. IfSome (all_told held olds) (λ helds. LogsGrewByFirst log (opening_reads helds) olds new) in
    subst P (sym written) (subst Q c.deref_mut.ensures.value
    (IfSome_then (all_told held lent) c.open_drives.ensures.reads (λ helds reads. ReadFor-first g.D.Drive.faults log (opening_reads helds) lent new c.open_drives.result reads)))

use Rattle.std.proofs.Common.{◌≢◌, ℕ, List, subst}
use Rattle.fg_base.specs.declared.refusal.Refusal.{Refusal}
use Rattle.fg_image.specs.Checking.{IsFaultless, IsFirstFault}
use Rattle.fg_image.specs.Lists.{graph_by}
use Rattle.fg_model.specs.Mirror.{IsMirror}
use Rattle.fg_outside.specs.Drives.{all_told}
use Rattle.fg_outside.proofs.DriveLemmas.{EachSame-more, RoomyKept-more, all_told-same}
use Rattle.fg_top.specs.CheckJob.{parts_of}
use Rattle.fg_top.proofs.CheckEnds.{check_faulty, check_reads_all, check_reads_first, check_reads_some, check_unopened, check_unread, faulty_not_held, faulty_not_output, mirror_on, read_so, sound_on, unread_not_held, unread_not_output}
use Rattle.fg_top.proofs.OutcomeLemmas.{opening_not_output}
use Rattle.fg_top.proofs.checking.check.Goals as goal

pub returns-in-Err-clause-cause : goal.returns-in-Err-clause-cause
returns-in-Err-clause-cause g c =
    let olds = c.args.drives.now.items in
    let between = c.open.new.drives.items in
    let told = all_told g.D.Drive.held olds in
    check_unopened g.D.Drive.faults olds between told c.in-Err.refusal c.in-Err.ensures.counts c.in-Err.ensures.answer

pub returns-in-Err-clause-not_output : goal.returns-in-Err-clause-not_output
returns-in-Err-clause-not_output g c =
    let olds = c.args.drives.now.items in
    let between = c.open.new.drives.items in
    opening_not_output g.D.Drive.faults olds between c.in-Err.refusal c.in-Err.ensures.counts

pub returns-in-Err-clause-reads : goal.returns-in-Err-clause-reads
returns-in-Err-clause-reads g c =
    let olds = c.args.drives.now.items in
    let between = c.open.new.drives.items in
    let told = all_told g.D.Drive.held olds in
    check_reads_first g.D.Drive.log told olds between c.in-Err.ensures.reads

pub returns-in-Err-read_all-clause-held : goal.returns-in-Err-read_all-clause-held
returns-in-Err-read_all-clause-held g c =
    let olds = c.args.drives.now.items in
    let between = c.open.new.drives.items in
    let news = c.read_all.new.drives.items in
    EachSame-more g.D.Drive.held olds between news c.in-Ok.ensures.held c.read_all.ensures.held

pub returns-in-Err-read_all-clause-sure : goal.returns-in-Err-read_all-clause-sure
returns-in-Err-read_all-clause-sure g c =
    let olds = c.args.drives.now.items in
    let between = c.open.new.drives.items in
    let news = c.read_all.new.drives.items in
    RoomyKept-more g.D.Drive.room g.D.Drive.faults olds between news c.in-Ok.ensures.room c.in-Ok.ensures.sure c.read_all.ensures.sure

pub returns-in-Err-read_all-clause-reads : goal.returns-in-Err-read_all-clause-reads
returns-in-Err-read_all-clause-reads g c =
    let olds = c.args.drives.now.items in
    let between = c.open.new.drives.items in
    let news = c.read_all.new.drives.items in
    let told = all_told g.D.Drive.held olds in
    check_reads_some g.D.Drive.log told c.in-Ok.opened olds between news c.in-Ok.ensures.answer c.in-Ok.ensures.all_read c.read_all.ensures.reads

pub returns-in-Ok-check_sections-clause-held : goal.returns-in-Ok-check_sections-clause-held
returns-in-Ok-check_sections-clause-held g c =
    let olds = c.args.drives.now.items in
    let between = c.open.new.drives.items in
    let news = c.read_all.new.drives.items in
    EachSame-more g.D.Drive.held olds between news c.in-Ok.ensures.held c.read_all.ensures.held

pub returns-in-Ok-check_sections-clause-sure : goal.returns-in-Ok-check_sections-clause-sure
returns-in-Ok-check_sections-clause-sure g c =
    let olds = c.args.drives.now.items in
    let between = c.open.new.drives.items in
    let news = c.read_all.new.drives.items in
    RoomyKept-more g.D.Drive.room g.D.Drive.faults olds between news c.in-Ok.ensures.room c.in-Ok.ensures.sure c.read_all.ensures.sure

pub returns-in-Ok-check_sections-clause-reads : goal.returns-in-Ok-check_sections-clause-reads
returns-in-Ok-check_sections-clause-reads g c =
    let olds = c.args.drives.now.items in
    let between = c.open.new.drives.items in
    let news = c.read_all.new.drives.items in
    let told = all_told g.D.Drive.held olds in
    check_reads_some g.D.Drive.log told c.in-Ok.opened olds between news c.in-Ok.ensures.answer c.in-Ok.ensures.all_read c.read_all.ensures.reads

pub returns-in-Err-check_sections-clause-held : goal.returns-in-Err-check_sections-clause-held
returns-in-Err-check_sections-clause-held g c =
    let olds = c.args.drives.now.items in
    let between = c.open.new.drives.items in
    let news = c.read_all.new.drives.items in
    EachSame-more g.D.Drive.held olds between news c.in-Ok.ensures.held c.read_all.ensures.held

pub returns-in-Err-check_sections-clause-sure : goal.returns-in-Err-check_sections-clause-sure
returns-in-Err-check_sections-clause-sure g c =
    let olds = c.args.drives.now.items in
    let between = c.open.new.drives.items in
    let news = c.read_all.new.drives.items in
    RoomyKept-more g.D.Drive.room g.D.Drive.faults olds between news c.in-Ok.ensures.room c.in-Ok.ensures.sure c.read_all.ensures.sure

pub returns-in-Err-check_sections-clause-reads : goal.returns-in-Err-check_sections-clause-reads
returns-in-Err-check_sections-clause-reads g c =
    let olds = c.args.drives.now.items in
    let between = c.open.new.drives.items in
    let news = c.read_all.new.drives.items in
    let told = all_told g.D.Drive.held olds in
    check_reads_some g.D.Drive.log told c.in-Ok.opened olds between news c.in-Ok.ensures.answer c.in-Ok.ensures.all_read c.read_all.ensures.reads

pub returns-in-Err-read_all-clause-cause : goal.returns-in-Err-read_all-clause-cause
returns-in-Err-read_all-clause-cause g c =
    let olds = c.args.drives.now.items in
    let between = c.open.new.drives.items in
    let news = c.read_all.new.drives.items in
    let told = all_told g.D.Drive.held olds in
    check_unread g.D.Drive.faults olds between news told c.in-Err-read_all.refusal c.in-Ok.ensures.counts c.in-Err-read_all.ensures.counts

pub returns-in-Err-read_all-clause-not_output : goal.returns-in-Err-read_all-clause-not_output
returns-in-Err-read_all-clause-not_output g c =
    let between = c.open.new.drives.items in
    let news = c.read_all.new.drives.items in
    unread_not_output g.D.Drive.faults between news c.in-Err-read_all.refusal c.in-Err-read_all.ensures.counts

pub returns-in-Err-read_all-clause-told_err : goal.returns-in-Err-read_all-clause-told_err
returns-in-Err-read_all-clause-told_err g c =
    let between = c.open.new.drives.items in
    let news = c.read_all.new.drives.items in
    λ seven. absurd (unread_not_held g.D.Drive.faults between news c.in-Err-read_all.refusal c.in-Err-read_all.ensures.counts seven)

pub returns-in-Ok-check_sections-clause-sound : goal.returns-in-Ok-check_sections-clause-sound
returns-in-Ok-check_sections-clause-sound g c =
    let olds = c.args.drives.now.items in
    let between = c.open.new.drives.items in
    let told = all_told g.D.Drive.held olds in
    let again = all_told g.D.Drive.held between in
    let same = all_told-same g.D.Drive.held olds between c.open.ensures.held in
    let Of : List ℕ → Type 0 = λ bytes. IsFaultless (parts_of c.in-Ok.opened) bytes in
    sound_on told again c.in-Ok.opened c.in-Ok-read_all.image.items same c.in-Ok-read_all.ensures.image (subst Of c.deref.ensures.value c.in-Ok-check_sections.ensures.ok)

pub returns-in-Ok-check_sections-clause-mirror : goal.returns-in-Ok-check_sections-clause-mirror
returns-in-Ok-check_sections-clause-mirror g c =
    let olds = c.args.drives.now.items in
    let between = c.open.new.drives.items in
    let told = all_told g.D.Drive.held olds in
    let again = all_told g.D.Drive.held between in
    let same = all_told-same g.D.Drive.held olds between c.open.ensures.held in
    let Of : List ℕ → Type 0 = λ bytes. IsMirror (graph_by c.in-Ok.opened.layout c.in-Ok.opened.index bytes) in
    mirror_on told again c.in-Ok.opened c.in-Ok-read_all.image.items same c.in-Ok.ensures.answer c.in-Ok-read_all.ensures.image (subst Of c.deref.ensures.value c.in-Ok-check_sections.ensures.mirror)

pub returns-in-Ok-check_sections-clause-kept : goal.returns-in-Ok-check_sections-clause-kept
returns-in-Ok-check_sections-clause-kept g c =
    let olds = c.args.drives.now.items in
    let between = c.open.new.drives.items in
    let news = c.read_all.new.drives.items in
    EachSame-more g.D.Drive.faults olds between news c.in-Ok.ensures.counts c.in-Ok-read_all.ensures.counts

pub returns-in-Ok-check_sections-clause-all_read : goal.returns-in-Ok-check_sections-clause-all_read
returns-in-Ok-check_sections-clause-all_read g c =
    let olds = c.args.drives.now.items in
    let between = c.open.new.drives.items in
    let news = c.read_all.new.drives.items in
    let told = all_told g.D.Drive.held olds in
    check_reads_all g.D.Drive.log told c.in-Ok.opened olds between news c.in-Ok.ensures.answer c.in-Ok.ensures.all_read c.in-Ok-read_all.ensures.all_read

pub returns-in-Err-check_sections-clause-cause : goal.returns-in-Err-check_sections-clause-cause
returns-in-Err-check_sections-clause-cause g c =
    let olds = c.args.drives.now.items in
    let between = c.open.new.drives.items in
    let news = c.read_all.new.drives.items in
    let told = all_told g.D.Drive.held olds in
    let again = all_told g.D.Drive.held between in
    let same = all_told-same g.D.Drive.held olds between c.open.ensures.held in
    let Of : List ℕ → Type 0 = λ bytes. c.in-Err-check_sections.refusal ≢ Refusal.Memory → IsFirstFault (parts_of c.in-Ok.opened) bytes c.in-Err-check_sections.refusal in
    check_faulty g.D.Drive.faults olds news told c.in-Ok.opened c.in-Ok-read_all.image.items c.in-Err-check_sections.refusal (EachSame-more g.D.Drive.faults olds between news c.in-Ok.ensures.counts c.in-Ok-read_all.ensures.counts) c.in-Ok.ensures.answer (read_so told again c.in-Ok.opened c.in-Ok-read_all.image.items same c.in-Ok-read_all.ensures.image) (subst Of c.deref.ensures.value c.in-Err-check_sections.ensures.refusal)

pub returns-in-Err-check_sections-clause-not_output : goal.returns-in-Err-check_sections-clause-not_output
returns-in-Err-check_sections-clause-not_output g c =
    let Of : List ℕ → Type 0 = λ bytes. c.in-Err-check_sections.refusal ≢ Refusal.Memory → IsFirstFault (parts_of c.in-Ok.opened) bytes c.in-Err-check_sections.refusal in
    faulty_not_output c.in-Ok.opened c.in-Ok-read_all.image.items c.in-Err-check_sections.refusal (subst Of c.deref.ensures.value c.in-Err-check_sections.ensures.refusal)

pub returns-in-Err-check_sections-clause-told_err : goal.returns-in-Err-check_sections-clause-told_err
returns-in-Err-check_sections-clause-told_err g c =
    let Of : List ℕ → Type 0 = λ bytes. c.in-Err-check_sections.refusal ≢ Refusal.Memory → IsFirstFault (parts_of c.in-Ok.opened) bytes c.in-Err-check_sections.refusal in
    λ seven. absurd (faulty_not_held c.in-Ok.opened c.in-Ok-read_all.image.items c.in-Err-check_sections.refusal (subst Of c.deref.ensures.value c.in-Err-check_sections.ensures.refusal) seven)

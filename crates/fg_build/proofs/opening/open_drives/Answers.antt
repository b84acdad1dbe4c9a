-- An opening ends in one of its stages: at the labels, at the header page, at the index, or whole.
use Rattle.std.proofs.Common.{◌≡◌, ◌∙◌, ◌∷◌, [], IfSome, Ok, Err, arith, length, subst, sym, ap, take}
use Rattle.fg_build.specs.Answers.{HoldWhole}
use Rattle.fg_build.specs.Calls.{AllRead, ReadUntil, SaysOf}
use Rattle.fg_build.specs.Front.{IsFront}
use Rattle.fg_build.specs.Labelled.{striping_of}
use Rattle.fg_build.specs.Opening.{opening_of}
use Rattle.fg_build.specs.OpeningReads.{label_reads, page_read, page_reads}
use Rattle.fg_build.specs.Pages.{pages_at}
use Rattle.fg_build.proofs.CallLaws.{AllRead-more, Keeps-more, ReadUntil-more, all_told-before}
use Rattle.fg_build.proofs.ImageLaws.{pages_whole}
use Rattle.fg_build.proofs.OpeningLaws.{all_opened, front_stops, index_stops, label_striped, reads_of_all, reads_of_front, reads_of_index, reads_of_labels}
use Rattle.fg_build.proofs.PageLaws.{HoldWhole-same}
use Rattle.fg_image.specs.Front.{front_at}
use Rattle.fg_image.specs.Header.{pages_for}
use Rattle.fg_image.specs.Image.{index_of}
use Rattle.fg_outside.specs.Drives.{all_told}
use Rattle.fg_outside.proofs.DriveLemmas.{EachSame-more}
use Rattle.fg_stripe.specs.declared.layout.Layout.{Layout}
use Rattle.fg_stripe.specs.Held.{page_on}
use Rattle.fg_build.proofs.ToldLaws.{RefusedTold-behind}
use Rattle.fg_build.proofs.opening.open_drives.Goals as goal

pub returns-in-Err-clause-reads : goal.returns-in-Err-clause-reads
returns-in-Err-clause-reads g c = reads_of_labels g.D.Drive.held g.D.Drive.faults g.D.Drive.log c.args.drives.now c.read_labels.new.drives c.in-Err.refusal c.in-Err.ensures.reads

pub returns-in-Err-read_front-clause-answer : goal.returns-in-Err-read_front-clause-answer
returns-in-Err-read_front-clause-answer g c =
    let held = g.D.Drive.held in
    let olds = c.args.drives.now in
    let mids = c.read_labels.new.drives in
    let label = c.in-Ok.label in
    let was = c.in-Ok.ensures.answer in
    let is_striped = c.striping_of-striping.ensures in
    let whole = all_told-before held olds mids _ c.read_labels.ensures.keeps.same_held
    (pages_whole held g.D.Drive.told g.met.D.Drive.told_held (striping_of label) mids (label_striped label c.in-Ok.ensures.fits) c.in-Ok.ensures.told) in
    let says = all_told-before held olds mids _ c.read_labels.ensures.keeps.same_held c.in-Err-read_front.ensures.answer in
    let P : Layout → Type 0 = λ striping. IfSome (all_told held olds) (λ helds. IsFront (front_at striping.pages (page_on striping.unit helds 0)) (Err c.in-Err-read_front.refusal)) in
    front_stops (all_told held olds) label was (omega (arith, c.in-Ok.ensures.fits.some_pages)) whole c.in-Err-read_front.refusal (subst P is_striped says)

pub returns-in-Err-read_front-clause-counts : goal.returns-in-Err-read_front-clause-counts
returns-in-Err-read_front-clause-counts g c =
    let U = ReadUntil-more g.D.Drive.faults g.D.Drive.log (label_reads (length c.args.drives.now)) _ c.in-Err-read_front.refusal c.args.drives.now c.read_labels.new.drives
    c.read_front.new.drives c.in-Ok.ensures.reads c.in-Err-read_front.ensures.reads in
    U.counts

pub returns-in-Err-read_front-clause-keeps : goal.returns-in-Err-read_front-clause-keeps
returns-in-Err-read_front-clause-keeps g c = Keeps-more _ _ _ _ c.read_labels.new.drives _ c.read_labels.ensures.keeps c.read_front.ensures.keeps

pub returns-in-Err-read_front-clause-reads : goal.returns-in-Err-read_front-clause-reads
returns-in-Err-read_front-clause-reads g c =
    let held = g.D.Drive.held in
    let olds = c.args.drives.now in
    let mids = c.read_labels.new.drives in
    let label = c.in-Ok.label in
    let was = c.in-Ok.ensures.answer in
    let is_striped = c.striping_of-striping.ensures in
    let P : Layout → Type 0 = λ striping. ReadUntil g.D.Drive.faults g.D.Drive.log (page_read striping.drives striping.unit 0 ∷ []) c.in-Err-read_front.refusal mids c.read_front.new.drives in
    reads_of_front held g.D.Drive.faults g.D.Drive.log olds c.read_front.new.drives label was c.in-Err-read_front.refusal
    (ReadUntil-more g.D.Drive.faults g.D.Drive.log (label_reads (length olds)) (page_read label.drives label.unit 0 ∷ []) c.in-Err-read_front.refusal olds mids c.read_front.new.drives
    c.in-Ok.ensures.reads (subst P is_striped c.in-Err-read_front.ensures.reads))

pub read_index-requires-clause-told : goal.read_index-requires-clause-told
read_index-requires-clause-told g c =
    let P : Layout → Type 0 = λ striping. HoldWhole g.D.Drive.told striping c.read_front.new.drives in
    subst P (sym c.striping_of-striping.ensures)
    (HoldWhole-same g.D.Drive.told (striping_of c.in-Ok.label) c.read_labels.new.drives c.read_front.new.drives c.read_front.ensures.same_told c.in-Ok.ensures.told)

pub returns-in-Ok-read_index-clause-answer : goal.returns-in-Ok-read_index-clause-answer
returns-in-Ok-read_index-clause-answer g c =
    let held = g.D.Drive.held in
    let olds = c.args.drives.now in
    let mids = c.read_labels.new.drives in
    let label = c.in-Ok.label in
    let was = c.in-Ok.ensures.answer in
    let is_striped = c.striping_of-striping.ensures in
    let whole = all_told-before held olds mids _ c.read_labels.ensures.keeps.same_held
    (pages_whole held g.D.Drive.told g.met.D.Drive.told_held (striping_of label) mids (label_striped label c.in-Ok.ensures.fits) c.in-Ok.ensures.told) in
    let front = c.in-Ok-read_front.front in
    let F : Layout → Type 0 = λ striping. IfSome (all_told held olds) (λ helds. front_at striping.pages (page_on striping.unit helds 0) ≡ Ok (record { header = front.0; layout = front.1 })) in
    let found = subst F is_striped (all_told-before held olds mids _ c.read_labels.ensures.keeps.same_held c.in-Ok-read_front.ensures.answer) in
    let same = c.in-Ok-read_front.ensures.pages ∙ ap (λ (striping : Layout). striping.pages) is_striped in
    let behind = EachSame-more held olds mids c.read_front.new.drives c.read_labels.ensures.keeps.same_held c.read_front.ensures.keeps.same_held in
    let index = c.in-Ok-read_index.index in
    let I : Layout → Type 0 = λ striping. IfSome (all_told held olds) (λ helds. index_of front.0 (take front.0.index_bytes (pages_at striping.unit helds front.0.index_first (pages_for front.0.index_bytes))) ≡ Ok index) in
    let is = subst I is_striped (all_told-before held olds c.read_front.new.drives _ behind c.in-Ok-read_index.ensures.answer) in
    let O : Layout → Type 0 = λ striping. IfSome (all_told held olds) (λ helds. opening_of helds ≡ Ok (record {
      layout = record { drives = striping.drives; unit = striping.unit; pages = striping.pages; out_first = front.1.out_first; in_first = front.1.in_first };
      header = front.0;
      index = index;
    })) in
    subst O (sym is_striped) (all_opened (all_told held olds) label was (omega (arith, c.in-Ok.ensures.fits.some_pages)) whole front.0 front.1 c.in-Ok-read_front.ensures.fits same found index is)

pub returns-in-Ok-read_index-clause-told : goal.returns-in-Ok-read_index-clause-told
returns-in-Ok-read_index-clause-told g c =
    let P : Layout → Type 0 = λ striping. HoldWhole g.D.Drive.told striping c.read_index.new.drives in
    subst P (sym c.striping_of-striping.ensures)
    (HoldWhole-same g.D.Drive.told (striping_of c.in-Ok.label) c.read_labels.new.drives c.read_index.new.drives
    (EachSame-more g.D.Drive.told _ c.read_front.new.drives _ c.read_front.ensures.same_told c.read_index.ensures.same_told) c.in-Ok.ensures.told)

pub returns-in-Ok-read_index-clause-counts : goal.returns-in-Ok-read_index-clause-counts
returns-in-Ok-read_index-clause-counts g c =
    let faults = g.D.Drive.faults in
    EachSame-more faults _ c.read_front.new.drives _ (EachSame-more faults _ c.read_labels.new.drives _ c.in-Ok.ensures.reads.counts c.in-Ok-read_front.ensures.reads.counts)
    c.in-Ok-read_index.ensures.reads.counts

pub returns-in-Ok-read_index-clause-keeps : goal.returns-in-Ok-read_index-clause-keeps
returns-in-Ok-read_index-clause-keeps g c =
    Keeps-more _ _ _ _ c.read_front.new.drives _ (Keeps-more _ _ _ _ c.read_labels.new.drives _ c.read_labels.ensures.keeps c.read_front.ensures.keeps) c.read_index.ensures.keeps

pub returns-in-Ok-read_index-clause-reads : goal.returns-in-Ok-read_index-clause-reads
returns-in-Ok-read_index-clause-reads g c =
    let held = g.D.Drive.held in
    let olds = c.args.drives.now in
    let mids = c.read_labels.new.drives in
    let label = c.in-Ok.label in
    let was = c.in-Ok.ensures.answer in
    let is_striped = c.striping_of-striping.ensures in
    let front = c.in-Ok-read_front.front in
    let F : Layout → Type 0 = λ striping. IfSome (all_told held olds) (λ helds. front_at striping.pages (page_on striping.unit helds 0) ≡ Ok (record { header = front.0; layout = front.1 })) in
    let found = subst F is_striped (all_told-before held olds mids _ c.read_labels.ensures.keeps.same_held c.in-Ok-read_front.ensures.answer) in
    let R : Layout → Type 0 = λ striping. AllRead g.D.Drive.faults g.D.Drive.log (page_read striping.drives striping.unit 0 ∷ []) mids c.read_front.new.drives in
    let front_read = AllRead-more g.D.Drive.faults g.D.Drive.log (label_reads (length olds)) (page_read label.drives label.unit 0 ∷ []) olds mids c.read_front.new.drives
    c.in-Ok.ensures.reads (subst R is_striped c.in-Ok-read_front.ensures.reads) in
    let I : Layout → Type 0 = λ striping. AllRead g.D.Drive.faults g.D.Drive.log (page_reads striping.drives striping.unit front.0.index_first (pages_for front.0.index_bytes)) c.read_front.new.drives c.read_index.new.drives in
    reads_of_all held g.D.Drive.faults g.D.Drive.log olds c.read_index.new.drives label was front.0 front.1 found
    (AllRead-more g.D.Drive.faults g.D.Drive.log _ _ olds c.read_front.new.drives c.read_index.new.drives front_read (subst I is_striped c.in-Ok-read_index.ensures.reads))

pub returns-in-Err-read_index-clause-answer : goal.returns-in-Err-read_index-clause-answer
returns-in-Err-read_index-clause-answer g c =
    let held = g.D.Drive.held in
    let olds = c.args.drives.now in
    let mids = c.read_labels.new.drives in
    let label = c.in-Ok.label in
    let was = c.in-Ok.ensures.answer in
    let is_striped = c.striping_of-striping.ensures in
    let whole = all_told-before held olds mids _ c.read_labels.ensures.keeps.same_held
    (pages_whole held g.D.Drive.told g.met.D.Drive.told_held (striping_of label) mids (label_striped label c.in-Ok.ensures.fits) c.in-Ok.ensures.told) in
    let front = c.in-Ok-read_front.front in
    let F : Layout → Type 0 = λ striping. IfSome (all_told held olds) (λ helds. front_at striping.pages (page_on striping.unit helds 0) ≡ Ok (record { header = front.0; layout = front.1 })) in
    let found = subst F is_striped (all_told-before held olds mids _ c.read_labels.ensures.keeps.same_held c.in-Ok-read_front.ensures.answer) in
    let same = c.in-Ok-read_front.ensures.pages ∙ ap (λ (striping : Layout). striping.pages) is_striped in
    let behind = EachSame-more held olds mids c.read_front.new.drives c.read_labels.ensures.keeps.same_held c.read_front.ensures.keeps.same_held in
    let refusal = c.in-Err-read_index.refusal in
    let I : Layout → Type 0 = λ striping. IfSome (all_told held olds) (λ helds. SaysOf refusal (index_of front.0 (take front.0.index_bytes (pages_at striping.unit helds front.0.index_first (pages_for front.0.index_bytes))) ≡ Err refusal)) in
    let says = subst I is_striped (all_told-before held olds c.read_front.new.drives _ behind c.in-Err-read_index.ensures.answer) in
    index_stops (all_told held olds) label was (omega (arith, c.in-Ok.ensures.fits.some_pages)) whole front.0 front.1 c.in-Ok-read_front.ensures.fits same found refusal says

pub returns-in-Err-read_index-clause-counts : goal.returns-in-Err-read_index-clause-counts
returns-in-Err-read_index-clause-counts g c =
    let faults = g.D.Drive.faults in
    let log = g.D.Drive.log in
    let U = ReadUntil-more faults log _ _ c.in-Err-read_index.refusal _ c.read_front.new.drives _
    (AllRead-more faults log _ _ _ c.read_labels.new.drives _ c.in-Ok.ensures.reads c.in-Ok-read_front.ensures.reads) c.in-Err-read_index.ensures.reads in
    U.counts

pub returns-in-Err-read_index-clause-keeps : goal.returns-in-Err-read_index-clause-keeps
returns-in-Err-read_index-clause-keeps g c =
    Keeps-more _ _ _ _ c.read_front.new.drives _ (Keeps-more _ _ _ _ c.read_labels.new.drives _ c.read_labels.ensures.keeps c.read_front.ensures.keeps) c.read_index.ensures.keeps

pub returns-in-Err-read_index-clause-reads : goal.returns-in-Err-read_index-clause-reads
returns-in-Err-read_index-clause-reads g c =
    let held = g.D.Drive.held in
    let olds = c.args.drives.now in
    let mids = c.read_labels.new.drives in
    let label = c.in-Ok.label in
    let was = c.in-Ok.ensures.answer in
    let is_striped = c.striping_of-striping.ensures in
    let front = c.in-Ok-read_front.front in
    let F : Layout → Type 0 = λ striping. IfSome (all_told held olds) (λ helds. front_at striping.pages (page_on striping.unit helds 0) ≡ Ok (record { header = front.0; layout = front.1 })) in
    let found = subst F is_striped (all_told-before held olds mids _ c.read_labels.ensures.keeps.same_held c.in-Ok-read_front.ensures.answer) in
    let R : Layout → Type 0 = λ striping. AllRead g.D.Drive.faults g.D.Drive.log (page_read striping.drives striping.unit 0 ∷ []) mids c.read_front.new.drives in
    let front_read = AllRead-more g.D.Drive.faults g.D.Drive.log (label_reads (length olds)) (page_read label.drives label.unit 0 ∷ []) olds mids c.read_front.new.drives
    c.in-Ok.ensures.reads (subst R is_striped c.in-Ok-read_front.ensures.reads) in
    let refusal = c.in-Err-read_index.refusal in
    let I : Layout → Type 0 = λ striping. ReadUntil g.D.Drive.faults g.D.Drive.log (page_reads striping.drives striping.unit front.0.index_first (pages_for front.0.index_bytes)) refusal c.read_front.new.drives c.read_index.new.drives in
    reads_of_index held g.D.Drive.faults g.D.Drive.log olds c.read_index.new.drives label was front.0 front.1 found refusal
    (ReadUntil-more g.D.Drive.faults g.D.Drive.log _ _ refusal olds c.read_front.new.drives c.read_index.new.drives front_read (subst I is_striped c.in-Err-read_index.ensures.reads))

pub returns-in-Err-read_front-clause-told_err : goal.returns-in-Err-read_front-clause-told_err
returns-in-Err-read_front-clause-told_err g c =
    RefusedTold-behind g.D.Drive.told c.in-Ok.label c.in-Err-read_front.refusal c.args.drives.now c.read_front.new.drives c.in-Err-read_front.ensures.behind
    (HoldWhole-same g.D.Drive.told (striping_of c.in-Ok.label) c.read_labels.new.drives c.read_front.new.drives c.read_front.ensures.same_told c.in-Ok.ensures.told)

pub returns-in-Err-read_index-clause-told_err : goal.returns-in-Err-read_index-clause-told_err
returns-in-Err-read_index-clause-told_err g c =
    RefusedTold-behind g.D.Drive.told c.in-Ok.label c.in-Err-read_index.refusal c.args.drives.now c.read_index.new.drives c.in-Err-read_index.ensures.behind
    (HoldWhole-same g.D.Drive.told (striping_of c.in-Ok.label) c.read_labels.new.drives c.read_index.new.drives
    (EachSame-more g.D.Drive.told _ c.read_front.new.drives _ c.read_front.ensures.same_told c.read_index.ensures.same_told) c.in-Ok.ensures.told)

-- How a check of an image ends, by what opening, reading and checking did.
use Rattle.std.proofs.Common.{◌≡◌, ◌≢◌, ℕ, Option, None, Some, IfSome, Result, Ok, Err, List, refl, sym, subst, inl, inr}
use Rattle.std.proofs.lemmas.Option.{IfSome_then}
use Rattle.fg_base.specs.Refusal.{status_of}
use Rattle.fg_base.specs.declared.refusal.Refusal.{Refusal}
use Rattle.fg_build.specs.declared.opened.Opened.{Opened}
use Rattle.fg_build.specs.Answers.{IsOpening, OpeningCounts, ReadCounts}
use Rattle.fg_build.specs.Opening.{image_of, opening_of}
use Rattle.fg_build.specs.OpeningReads.{opening_reads, whole_reads}
use Rattle.fg_image.specs.Checking.{IsFaultless, IsFirstFault}
use Rattle.fg_image.specs.Lists.{graph_by}
use Rattle.fg_model.specs.Mirror.{IsMirror}
use Rattle.fg_outside.specs.declared.drive.Read.{Read}
use Rattle.fg_outside.specs.Drives.{LogsGrew, LogsGrewByFirst, NoneRose}
use Rattle.fg_outside.proofs.DriveLemmas.{EachSame-more, LogsGrewByFirst-before, LogsGrewByFirst-more, LogsGrew-more, RoseFirst-after}
use Rattle.fg_report.specs.Refusals.{refusal_line}
use Rattle.fg_top.specs.CheckJob.{CheckComesTo, ClosesCheck, ClosesHeld, HoldMirror, MayCloseCheck, check_reads, checked_line, opened_reads, parts_of}
use Rattle.fg_top.specs.Ends.{IsCause, IsCutShort, IsOutcome}
use Rattle.fg_top.specs.Outcome.{Done, Refuses, at_once}

-- a check that is cut short
pub cut_check : (told : Option (List (List ℕ))) (last : List ℕ) → IsCutShort (CheckComesTo told) last last
cut_check told last = record { outcome = at_once (Refuses Refusal.Memory); is_one = (refl, inl refl); count = 0; text_is = refl }

-- one that is refused so
refused_so : {D : Type 0} (faults : D → ℕ) (olds news : List D) (told : Option (List (List ℕ))) (refusal : Refusal) → NoneRose faults olds news →
    ClosesCheck told (Refuses refusal) → NoneRose faults olds news × IsOutcome (CheckComesTo told) (Refuses refusal) (refusal_line refusal) (refusal_line refusal)
refused_so faults olds news told refusal kept closes =
    (kept, record { outcome = at_once (Refuses refusal); is_one = (refl, inr closes); closes = refl; text_is = refl })

-- for what the drives hold
closes_unopened : (told : Option (List (List ℕ))) (refusal : Refusal) → MayCloseCheck (Refuses refusal) → IfSome told (λ helds. opening_of helds ≡ Err refusal) →
    ClosesCheck told (Refuses refusal)
closes_unopened None refusal may opening = may
closes_unopened (Some helds) refusal may opening =
    let P : Result Opened Refusal → Type 0 = λ given. ClosesHeld helds given (Refuses refusal) in
    subst P (sym opening) refl

unopened : {D : Type 0} (faults : D → ℕ) (olds news : List D) (told : Option (List (List ℕ))) (refusal : Refusal) →
    NoneRose faults olds news → MayCloseCheck (Refuses refusal) → IfSome told (λ helds. opening_of helds ≡ Err refusal) →
    NoneRose faults olds news × IsOutcome (CheckComesTo told) (Refuses refusal) (refusal_line refusal) (refusal_line refusal)
unopened faults olds news told refusal kept may opening = refused_so faults olds news told refusal kept (closes_unopened told refusal may opening)

-- why drives that weren't opened are refused
pub check_unopened : {D : Type 0} (faults : D → ℕ) (olds news : List D) (told : Option (List (List ℕ))) (refusal : Refusal) →
    OpeningCounts faults olds news (Err refusal) → IfSome told (λ helds. IsOpening (opening_of helds) (Err refusal)) →
    IsCause faults olds news (CheckComesTo told) (Some refusal) (refusal_line refusal)
check_unopened faults olds news told Refusal.Memory counts opening = (counts, cut_check told (refusal_line Refusal.Memory))
check_unopened faults olds news told (Refusal.DriveFault drive) counts opening = (counts, cut_check told (refusal_line (Refusal.DriveFault drive)))
check_unopened faults olds news told (Refusal.NoLabel drive) counts opening = unopened faults olds news told (Refusal.NoLabel drive) counts tt opening
check_unopened faults olds news told (Refusal.WrongDrive drive found) counts opening = unopened faults olds news told (Refusal.WrongDrive drive found) counts tt opening
check_unopened faults olds news told (Refusal.LabelDiffers drive) counts opening = unopened faults olds news told (Refusal.LabelDiffers drive) counts tt opening
check_unopened faults olds news told (Refusal.ShortDrive drive have need) counts opening = unopened faults olds news told (Refusal.ShortDrive drive have need) counts tt opening
check_unopened faults olds news told Refusal.BadHeader counts opening = unopened faults olds news told Refusal.BadHeader counts tt opening
check_unopened faults olds news told (Refusal.BadVersion found) counts opening = unopened faults olds news told (Refusal.BadVersion found) counts tt opening
check_unopened faults olds news told Refusal.BadSections counts opening = unopened faults olds news told Refusal.BadSections counts tt opening
check_unopened faults olds news told (Refusal.BadIndex dir place) counts opening = unopened faults olds news told (Refusal.BadIndex dir place) counts tt opening
check_unopened faults olds news told refusal counts opening = absurd counts

-- why an image wasn't read whole
pub check_unread : {D : Type 0} (faults : D → ℕ) (olds betweens news : List D) (told : Option (List (List ℕ))) (refusal : Refusal) →
    NoneRose faults olds betweens → ReadCounts {D = D} {A = List ℕ} faults betweens news (Err refusal) →
    IsCause faults olds news (CheckComesTo told) (Some refusal) (refusal_line refusal)
check_unread faults olds betweens news told Refusal.Memory kept counts =
    (EachSame-more faults olds betweens news kept counts, cut_check told (refusal_line Refusal.Memory))
check_unread faults olds betweens news told (Refusal.DriveFault drive) kept counts =
    (RoseFirst-after faults drive olds betweens news kept counts, cut_check told (refusal_line (Refusal.DriveFault drive)))
check_unread faults olds betweens news told refusal kept counts = absurd counts

pub unread_not_output : {D : Type 0} (faults : D → ℕ) (olds news : List D) (refusal : Refusal) →
    ReadCounts {D = D} {A = List ℕ} faults olds news (Err refusal) → refusal ≢ Refusal.OutputFault
unread_not_output {D} faults olds news refusal counts is =
    let P : Refusal → Type 0 = λ refusal. ReadCounts {D = D} {A = List ℕ} faults olds news (Err refusal) in subst P is counts

pub unread_not_held : {D : Type 0} (faults : D → ℕ) (olds news : List D) (refusal : Refusal) →
    ReadCounts {D = D} {A = List ℕ} faults olds news (Err refusal) → status_of refusal ≢ 7
unread_not_held faults olds news Refusal.Memory counts is = cc
unread_not_held faults olds news (Refusal.DriveFault drive) counts is = cc
unread_not_held faults olds news refusal counts is = absurd counts

-- for the image's first fault
closes_faulty : (told : Option (List (List ℕ))) (opened : Opened) (image : List ℕ) (fault : Refusal) → MayCloseCheck (Refuses fault) →
    IfSome told (λ helds. opening_of helds ≡ Ok opened) → IfSome told (λ helds. image ≡ image_of opened helds) → IsFirstFault (parts_of opened) image fault →
    ClosesCheck told (Refuses fault)
closes_faulty None opened image fault may opening read first = may
closes_faulty (Some helds) opened image fault may opening read first =
    let P : Result Opened Refusal → Type 0 = λ given. ClosesHeld helds given (Refuses fault) in
    let Q : List ℕ → Type 0 = λ bytes. IsFirstFault (parts_of opened) bytes fault in
    subst P (sym opening) (subst Q read first)

-- why an image was refused
pub check_faulty : {D : Type 0} (faults : D → ℕ) (olds news : List D) (told : Option (List (List ℕ))) (opened : Opened) (image : List ℕ) (found : Refusal) →
    NoneRose faults olds news → IfSome told (λ helds. opening_of helds ≡ Ok opened) → IfSome told (λ helds. image ≡ image_of opened helds) →
    (found ≢ Refusal.Memory → IsFirstFault (parts_of opened) image found) → IsCause faults olds news (CheckComesTo told) (Some found) (refusal_line found)
check_faulty faults olds news told opened image Refusal.Memory kept opening read first = (kept, cut_check told (refusal_line Refusal.Memory))
check_faulty faults olds news told opened image (Refusal.BadEdge edge) kept opening read first =
    refused_so faults olds news told (Refusal.BadEdge edge) kept (closes_faulty told opened image (Refusal.BadEdge edge) tt opening read (first (λ is. cc)))
check_faulty faults olds news told opened image (Refusal.BadPadding page) kept opening read first =
    refused_so faults olds news told (Refusal.BadPadding page) kept (closes_faulty told opened image (Refusal.BadPadding page) tt opening read (first (λ is. cc)))
check_faulty faults olds news told opened image (Refusal.NotMirror v) kept opening read first =
    refused_so faults olds news told (Refusal.NotMirror v) kept (closes_faulty told opened image (Refusal.NotMirror v) tt opening read (first (λ is. cc)))
check_faulty faults olds news told opened image found kept opening read first = absurd (first (λ is. cc))

pub faulty_not_output : (opened : Opened) (image : List ℕ) (found : Refusal) → (found ≢ Refusal.Memory → IsFirstFault (parts_of opened) image found) → found ≢ Refusal.OutputFault
faulty_not_output opened image Refusal.OutputFault first is = first (λ memory. cc)
faulty_not_output opened image found first is = cc

pub faulty_not_held : (opened : Opened) (image : List ℕ) (found : Refusal) → (found ≢ Refusal.Memory → IsFirstFault (parts_of opened) image found) → status_of found ≢ 7
faulty_not_held opened image Refusal.Memory first is = cc
faulty_not_held opened image (Refusal.BadEdge edge) first is = cc
faulty_not_held opened image (Refusal.BadPadding page) first is = cc
faulty_not_held opened image (Refusal.NotMirror v) first is = cc
faulty_not_held opened image found first is = absurd (first (λ memory. cc))

-- an image without a fault
pub sound_on : (told again : Option (List (List ℕ))) (opened : Opened) (image : List ℕ) → again ≡ told → IfSome again (λ helds. image ≡ image_of opened helds) →
    IsFaultless (parts_of opened) image → IfSome told (λ helds. IsFaultless (parts_of opened) (image_of opened helds))
sound_on told again opened image same read none =
    let Of : Option (List (List ℕ)) → Type 0 = λ told. IfSome told (λ helds. image ≡ image_of opened helds) in
    let P : List ℕ → Type 0 = λ bytes. IsFaultless (parts_of opened) bytes in
    IfSome_then told (subst Of same read) (λ helds is. subst P is none)

pub mirror_on : (told again : Option (List (List ℕ))) (opened : Opened) (image : List ℕ) → again ≡ told → IfSome told (λ helds. opening_of helds ≡ Ok opened) →
    IfSome again (λ helds. image ≡ image_of opened helds) → IsMirror (graph_by opened.layout opened.index image) → IfSome told (λ helds. HoldMirror helds (opening_of helds))
mirror_on None again opened image same opening read mirror = tt
mirror_on (Some helds) again opened image same opening read mirror =
    let Of : Option (List (List ℕ)) → Type 0 = λ told. IfSome told (λ helds. image ≡ image_of opened helds) in
    let P : Result Opened Refusal → Type 0 = λ given. HoldMirror helds given in
    let Q : List ℕ → Type 0 = λ bytes. IsMirror (graph_by opened.layout opened.index bytes) in
    subst P (sym opening) (subst Q (subst Of same read) mirror)

pub read_so : (told again : Option (List (List ℕ))) (opened : Opened) (image : List ℕ) → again ≡ told → IfSome again (λ helds. image ≡ image_of opened helds) →
    IfSome told (λ helds. image ≡ image_of opened helds)
read_so told again opened image same read =
    let Of : Option (List (List ℕ)) → Type 0 = λ told. IfSome told (λ helds. image ≡ image_of opened helds) in
    subst Of same read

pub comes_checked : (told : Option (List (List ℕ))) (opened : Opened) → IfSome told (λ helds. opening_of helds ≡ Ok opened) →
    IfSome told (λ helds. IsFaultless (parts_of opened) (image_of opened helds)) → CheckComesTo told (at_once (Done (checked_line opened)))
comes_checked told opened opening sound = (refl, inr (closes told opening sound)) where
  closes : (told : Option (List (List ℕ))) → IfSome told (λ helds. opening_of helds ≡ Ok opened) →
      IfSome told (λ helds. IsFaultless (parts_of opened) (image_of opened helds)) → ClosesCheck told (Done (checked_line opened))
  closes None opening sound = (opened, refl)
  closes (Some helds) opening sound =
      let P : Result Opened Refusal → Type 0 = λ given. ClosesHeld helds given (Done (checked_line opened)) in
      subst P (sym opening) (refl, sound)

-- what is read of the drives: where opening ended, where reading ended, and all
pub check_reads_first : {D : Type 0} (log : D → Option (List Read)) (told : Option (List (List ℕ))) (olds news : List D) →
    IfSome told (λ helds. LogsGrewByFirst log (opening_reads helds) olds news) → IfSome told (λ helds. LogsGrewByFirst log (check_reads helds) olds news)
check_reads_first log told olds news reads =
    IfSome_then told reads (λ helds first. LogsGrewByFirst-before log (opening_reads helds) (opened_reads (opening_of helds)) olds news first)

pub check_reads_some : {D : Type 0} (log : D → Option (List Read)) (told : Option (List (List ℕ))) (opened : Opened) (olds betweens news : List D) →
    IfSome told (λ helds. opening_of helds ≡ Ok opened) → IfSome told (λ helds. LogsGrew log (opening_reads helds) olds betweens) →
    LogsGrewByFirst log (whole_reads opened.layout) betweens news → IfSome told (λ helds. LogsGrewByFirst log (check_reads helds) olds news)
check_reads_some log None opened olds betweens news opening first reads = tt
check_reads_some log (Some helds) opened olds betweens news opening first reads =
    let By : Result Opened Refusal → Type 0 = λ given. LogsGrewByFirst log (opened_reads given) betweens news in
    LogsGrewByFirst-more log (opening_reads helds) (opened_reads (opening_of helds)) olds betweens news first (subst By (sym opening) reads)

pub check_reads_all : {D : Type 0} (log : D → Option (List Read)) (told : Option (List (List ℕ))) (opened : Opened) (olds betweens news : List D) →
    IfSome told (λ helds. opening_of helds ≡ Ok opened) → IfSome told (λ helds. LogsGrew log (opening_reads helds) olds betweens) →
    LogsGrew log (whole_reads opened.layout) betweens news → IfSome told (λ helds. LogsGrew log (check_reads helds) olds news)
check_reads_all log None opened olds betweens news opening first reads = tt
check_reads_all log (Some helds) opened olds betweens news opening first reads =
    let By : Result Opened Refusal → Type 0 = λ given. LogsGrew log (opened_reads given) betweens news in
    LogsGrew-more log (opening_reads helds) (opened_reads (opening_of helds)) olds betweens news first (subst By (sym opening) reads)

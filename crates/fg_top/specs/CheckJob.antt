-- What a check of an image promises.
use Rattle.std.specs.Prelude.{◌≡◌, ℕ, Option, None, Some, Result, Ok, Err, List, [], ◌++◌, ◌⊎◌, codes}
use Rattle.fg_base.specs.declared.refusal.Refusal.{Refusal}
use Rattle.fg_build.specs.declared.opened.Opened.{Opened}
use Rattle.fg_build.specs.Answers.{MatchOpening}
use Rattle.fg_build.specs.Opening.{graph_on, image_of, opening_of}
use Rattle.fg_build.specs.OpeningReads.{opening_reads, whole_reads}
use Rattle.fg_image.specs.Checking.{IsFaultless, IsFirstFault}
use Rattle.fg_image.specs.Header.{is_weighted}
use Rattle.fg_image.specs.Image.{Parts, parts_with}
use Rattle.fg_model.specs.Mirror.{IsMirror}
use Rattle.fg_outside.specs.Drives.{DriveRead, LogsGrew, LogsGrewByFirst}
use Rattle.fg_top.specs.BuildOutcome.{counts_text, image_text}
use Rattle.fg_top.specs.Calls.{told_by}
use Rattle.fg_top.specs.Outcome.{Close, Done, Outcome, Refuses}
use Rattle.fg_top.specs.Promise.{OfReads, Promise, alone}
use Rattle.fg_top.specs.RunJob.{opens}

-- the line of an image that was checked, with its end
abbrev pub checked_line : Opened → List ℕ
checked_line opened =
    codes "checked " ++ counts_text opened.header.n opened.header.out_entries opened.header.in_entries
    ++ image_text (is_weighted opened.header) opened.layout.pages opened.layout.drives ++ codes "\n"

-- the header, the sections and the index of an image that was opened
abbrev pub parts_of : Opened → Parts
parts_of opened = parts_with opened.header opened.layout opened.index

-- how a check of drives that hold these bytes and open so closes: done where their image has no fault, or refused for its first one
abbrev pub ClosesOpened : List (List ℕ) → Opened → Close → Type 0
ClosesOpened helds opened (Done text) = (text ≡ checked_line opened) × IsFaultless (parts_of opened) (image_of opened helds)
ClosesOpened helds opened (Refuses refusal) = IsFirstFault (parts_of opened) (image_of opened helds) refusal

-- the same by how they open: what refuses them refuses the check
abbrev pub ClosesHeld : List (List ℕ) → Result Opened Refusal → Close → Type 0
ClosesHeld helds (Err refusal) close = close ≡ Refuses refusal
ClosesHeld helds (Ok opened) close = ClosesOpened helds opened close

-- how a check may close where some drive doesn't tell its bytes: done with the line of some image, or refused for what drives hold or
-- for a fault of an image
abbrev pub MayCloseCheck : Close → Type 0
MayCloseCheck (Done text) = (opened : Opened) × (text ≡ checked_line opened)
MayCloseCheck (Refuses (Refusal.BadEdge edge)) = Unit {0}
MayCloseCheck (Refuses (Refusal.BadPadding page)) = Unit {0}
MayCloseCheck (Refuses (Refusal.NotMirror v)) = Unit {0}
MayCloseCheck (Refuses refusal) = MatchOpening refusal ⊥ (λ drive. ⊥) (Unit {0})

-- by what the drives tell of their bytes
abbrev pub ClosesCheck : Option (List (List ℕ)) → Close → Type 0
ClosesCheck None close = MayCloseCheck close
ClosesCheck (Some helds) close = ClosesHeld helds (opening_of helds) close

-- a check comes to this outcome: it writes nothing but how it closes. One that is cut short closes for want of memory, whatever the
-- image is
abbrev pub CheckComesTo : Option (List (List ℕ)) → Outcome → Type 0
CheckComesTo told outcome = (outcome.lines ≡ []) × ((outcome.close ≡ Refuses Refusal.Memory) ⊎ ClosesCheck told outcome.close)

-- the reads of a check: those of opening, and then each page of the image, ascending; none of it where the drives don't open
abbrev pub opened_reads : Result Opened Refusal → List DriveRead
opened_reads (Err refusal) = []
opened_reads (Ok opened) = whole_reads opened.layout

abbrev pub check_reads : List (List ℕ) → List DriveRead
check_reads helds = opening_reads helds ++ opened_reads (opening_of helds)

abbrev pub reads_once : {D : Type 0} → OfReads D
reads_once = record {
  reads = λ helds call. LogsGrewByFirst call.tells.log (check_reads helds) call.olds call.news;
  all_reads = λ helds call. LogsGrew call.tells.log (check_reads helds) call.olds call.news;
  keeps_logs = λ call. Unit {0};
}

-- the in-lists of the graph on the drives are its out-lists turned round
abbrev pub HoldMirror : List (List ℕ) → Result Opened Refusal → Type 0
HoldMirror helds (Err refusal) = ⊥
HoldMirror helds (Ok opened) = IsMirror (graph_on opened helds)

-- the promise
abbrev pub check_promise : {D : Type 0} → Promise D
check_promise {D} =
    let other : Promise D = alone (λ call. CheckComesTo (told_by call)) in
    record other {
      of_drives = opens;
      of_reads = reads_once;
      means = λ helds. HoldMirror helds (opening_of helds);
    }

-- Ends of a job, put together from what its stages did.
use Rattle.std.proofs.Common.{◌≡◌, ◌≢◌, ◌∙◌, ⊎_elim, ℕ, zero, suc, ◌+◌, Bool, Option, None, Some, List, [], ◌∷◌, ◌++◌, length, take, refl, sym, ap, subst, inl, inr, append_assoc}
use Rattle.std.proofs.Math.Seq.{take-append-add}
use Rattle.std.specs.List.{concat}
use Rattle.fg_base.specs.Faults.{Rose}
use Rattle.fg_base.specs.Refusal.{status_of}
use Rattle.fg_base.specs.Told.{grown, GrewByFirst}
use Rattle.fg_base.specs.declared.refusal.Refusal.{Refusal}
use Rattle.fg_base.proofs.GrowthLemmas.{grew_before, grew_on}
use Rattle.fg_base.proofs.ToldLemmas.{grown-grown}
use Rattle.fg_outside.specs.Drives.{NoneRose, RoseFirst}
use Rattle.fg_outside.proofs.DriveLemmas.{EachSame-more, RoseFirst-after}
use Rattle.fg_report.specs.Refusals.{refusal_line}
use Rattle.fg_top.specs.Calls.{Output, output_over}
use Rattle.fg_top.specs.Ends.{Ends, EndsAlone, EndsLeaving, IsCause, IsCutShort, IsOutcome, IsWritten}
use Rattle.fg_top.specs.Outcome.{Close, Done, Outcome, at_once}
use Rattle.fg_top.specs.Statuses.{CameToEnd}

-- an outcome with these texts before its own
abbrev pub behind : List (List ℕ) → Outcome → Outcome
behind first outcome = record { lines = first ++ outcome.lines; close = outcome.close }

concat-append : (first second : List (List ℕ)) → concat (first ++ second) ≡ concat first ++ concat second
concat-append [] second = refl
concat-append (text ∷ first) second = ap (λ rest. text ++ rest) (concat-append first second) ∙ sym (append_assoc text (concat first) (concat second))

led_texts : (first lines : List (List ℕ)) (last text : List ℕ) → text ≡ concat lines ++ last → concat first ++ text ≡ concat (first ++ lines) ++ last
led_texts first lines last text is =
    ap (λ rest. concat first ++ rest) is ∙ sym (append_assoc (concat first) (concat lines) last) ∙ ap (λ whole. whole ++ last) (sym (concat-append first lines))

-- a text that was written behind another
pub written_behind : (f0 f1 f2 : ℕ) (t0 t1 t2 : Option (List ℕ)) (back : Bool) (end : Option Refusal) (first text : List ℕ) (status : ℕ) →
    f1 ≡ f0 → t1 ≡ grown t0 first → IsWritten (output_over f1 f2 t1 t2 back) end text status →
    IsWritten (output_over f0 f2 t0 t2 back) end (first ++ text) status
written_behind f0 f1 f2 t0 t1 t2 back end first text status kept grew written =
    let From : ℕ → Type 0 = λ old. Rose old f2 in
    let After : Option (List ℕ) → Type 0 = λ told. GrewByFirst text told t2 in
    elim written [
      | inl whole ↦ inl (whole.0 ∙ kept, whole.1 ∙ ap (λ told. grown told text) grew ∙ grown-grown t0 first text, whole.2, whole.3)
      | inr failed ↦ inr (subst From kept failed.0, grew_on first text t0 t2 (subst After grew failed.1), failed.2)
    ]

outcome_behind : (comes other : Outcome → Type 0) (first : List (List ℕ)) → ((outcome : Outcome) → comes outcome → other (behind first outcome)) →
    (close : Close) (last text : List ℕ) → IsOutcome comes close last text → IsOutcome other close last (concat first ++ text)
outcome_behind comes other first more close last text is = record {
  outcome = behind first is.outcome;
  is_one = more is.outcome is.is_one;
  closes = is.closes;
  text_is = led_texts first is.outcome.lines last text is.text_is;
}

cut_behind : (comes other : Outcome → Type 0) (first : List (List ℕ)) → ((outcome : Outcome) → comes outcome → other (behind first outcome)) →
    (last text : List ℕ) → IsCutShort comes last text → IsCutShort other last (concat first ++ text)
cut_behind comes other first more last text is =
    let lines = is.outcome.lines in
    record {
      outcome = behind first is.outcome;
      is_one = more is.outcome is.is_one;
      count = length first + is.count;
      text_is = led_texts first (take is.count lines) last text is.text_is ∙ ap (λ some. concat some ++ last) (sym (take-append-add first lines is.count));
    }

-- a cause of a later stage, where no drive failed before and these texts were written
cause_behind : {D : Type 0} (faults : D → ℕ) (olds betweens news : List D) (comes other : Outcome → Type 0) (first : List (List ℕ)) →
    ((outcome : Outcome) → comes outcome → other (behind first outcome)) → NoneRose faults olds betweens →
    (end : Option Refusal) (text : List ℕ) → IsCause faults betweens news comes end text → IsCause faults olds news other end (concat first ++ text)
cause_behind faults olds betweens news comes other first more kept None text cause = (
  EachSame-more faults olds betweens news kept cause.0,
  record { last = cause.1.last; is_outcome = outcome_behind comes other first more _ cause.1.last text cause.1.is_outcome },
)
cause_behind faults olds betweens news comes other first more kept (Some Refusal.Memory) text cause =
    (EachSame-more faults olds betweens news kept cause.0, cut_behind comes other first more (refusal_line Refusal.Memory) text cause.1)
cause_behind faults olds betweens news comes other first more kept (Some Refusal.OutputFault) text cause = cause
cause_behind faults olds betweens news comes other first more kept (Some (Refusal.DriveFault drive)) text cause = (
  RoseFirst-after faults drive olds betweens news kept cause.0,
  cut_behind comes other first more (refusal_line (Refusal.DriveFault drive)) text cause.1,
)
cause_behind faults olds betweens news comes other first more kept (Some refusal) text cause = (
  EachSame-more faults olds betweens news kept cause.0,
  outcome_behind comes other first more _ (refusal_line refusal) text cause.1,
)

none_rises : {D : Type 0} (faults : D → ℕ) (drive : ℕ) → RoseFirst faults drive [] [] → ⊥
none_rises faults zero rose = rose
none_rises faults (suc drive) rose = rose

-- a cause of a stage that has no drives, where no drive of the job failed
cause_in_memory : {D : Type 0} (faults : D → ℕ) (olds news : List D) (comes other : Outcome → Type 0) →
    ((outcome : Outcome) → comes outcome → other outcome) → NoneRose faults olds news →
    (end : Option Refusal) (text : List ℕ) → IsCause {D = ℕ} (λ drive. drive) [] [] comes end text → IsCause faults olds news other end text
cause_in_memory faults olds news comes other more kept None text cause =
    (kept, record { last = cause.1.last; is_outcome = outcome_behind comes other [] more _ cause.1.last text cause.1.is_outcome })
cause_in_memory faults olds news comes other more kept (Some Refusal.Memory) text cause =
    (kept, cut_behind comes other [] more (refusal_line Refusal.Memory) text cause.1)
cause_in_memory faults olds news comes other more kept (Some Refusal.OutputFault) text cause = cause
cause_in_memory faults olds news comes other more kept (Some (Refusal.DriveFault drive)) text cause =
    absurd (none_rises {D = ℕ} (λ drive. drive) drive cause.0)
cause_in_memory faults olds news comes other more kept (Some refusal) text cause =
    (kept, outcome_behind comes other [] more _ (refusal_line refusal) text cause.1)

-- the end of a stage that has no drives is the same end where there are some
pub ends_in_memory : {D : Type 0} (faults : D → ℕ) (olds news : List D) (comes other : Outcome → Type 0) (leaves : Option Refusal → Type 0) (output : Output) (status : ℕ) →
    ((outcome : Outcome) → comes outcome → other outcome) → NoneRose faults olds news → ((end : Option Refusal) → leaves end) →
    EndsAlone comes output status → Ends faults olds news other leaves output status
ends_in_memory faults olds news comes other leaves output status more kept left ends = record {
  end = ends.end;
  text = ends.text;
  cause = cause_in_memory faults olds news comes other more kept ends.end ends.text ends.cause;
  left = left ends.end;
  written = ends.written;
}

-- the end of a later stage is the job's end
pub ends_behind : {D : Type 0} (faults : D → ℕ) (olds betweens news : List D) (comes other : Outcome → Type 0) (own leaves : Option Refusal → Type 0) (first : List (List ℕ))
    (f0 f1 f2 : ℕ) (t0 t1 t2 : Option (List ℕ)) (back : Bool) (status : ℕ) →
    ((outcome : Outcome) → comes outcome → other (behind first outcome)) → NoneRose faults olds betweens → ((end : Option Refusal) → own end → leaves end) →
    f1 ≡ f0 → t1 ≡ grown t0 (concat first) → Ends faults betweens news comes own (output_over f1 f2 t1 t2 back) status →
    Ends faults olds news other leaves (output_over f0 f2 t0 t2 back) status
ends_behind faults olds betweens news comes other own leaves first f0 f1 f2 t0 t1 t2 back status more kept left same grew ends = record {
  end = ends.end;
  text = concat first ++ ends.text;
  cause = cause_behind faults olds betweens news comes other first more kept ends.end ends.text ends.cause;
  left = left ends.end ends.left;
  written = written_behind f0 f1 f2 t0 t1 t2 back ends.end (concat first) ends.text status same grew ends.written;
}

-- a job that something ended where a put failed too: some first part of what had come was written, and no refusal's line
pub ends_unwritten : {D : Type 0} (faults : D → ℕ) (olds news : List D) (comes : Outcome → Type 0) (leaves : Option Refusal → Type 0) (refusal : Refusal) (first : List ℕ)
    (f0 f1 : ℕ) (t0 t1 : Option (List ℕ)) (back : Bool) (status : ℕ) → IsCause faults olds news comes (Some refusal) (first ++ refusal_line refusal) → leaves (Some refusal) →
    Rose f0 f1 → GrewByFirst first t0 t1 → status ≡ 4 → Ends faults olds news comes leaves (output_over f0 f1 t0 t1 back) status
ends_unwritten faults olds news comes leaves refusal first f0 f1 t0 t1 back status cause left rose grew failed = record {
  end = Some refusal;
  text = first ++ refusal_line refusal;
  cause = cause;
  left = left;
  written = inr (rose, grew_before first (refusal_line refusal) t0 t1 grew, failed);
}

-- a job that ends at once where a put fails, and no drive did: some first part of its first texts was written
pub ends_given_up : {D : Type 0} (faults : D → ℕ) (olds news : List D) (comes : Outcome → Type 0) (leaves : Option Refusal → Type 0) (outcome : Outcome) (count : ℕ)
    (f0 f1 : ℕ) (t0 t1 : Option (List ℕ)) (back : Bool) (status : ℕ) → comes outcome → NoneRose faults olds news → leaves (Some Refusal.Memory) → Rose f0 f1 →
    GrewByFirst (concat (take count outcome.lines)) t0 t1 → status ≡ 4 →
    Ends faults olds news comes leaves (output_over f0 f1 t0 t1 back) status
ends_given_up faults olds news comes leaves outcome count f0 f1 t0 t1 back status is kept left rose grew failed =
    ends_unwritten faults olds news comes leaves Refusal.Memory (concat (take count outcome.lines)) f0 f1 t0 t1 back status
    (kept, record { outcome = outcome; is_one = is; count = count; text_is = refl }) left rose grew failed

refusal_status : (refusal : Refusal) → status_of refusal ≡ 0 → ⊥
refusal_status Refusal.Memory is = cc
refusal_status (Refusal.Words fault) is = cc
refusal_status Refusal.InputFault is = cc
refusal_status Refusal.OutputFault is = cc
refusal_status (Refusal.DriveFault drive) is = cc
refusal_status (Refusal.BadLine line) is = cc
refusal_status (Refusal.IdTooLarge line) is = cc
refusal_status (Refusal.TooManyEdges line) is = cc
refusal_status Refusal.TextTooLong is = cc
refusal_status (Refusal.NotEmpty drive) is = cc
refusal_status (Refusal.ShortDrive drive have need) is = cc
refusal_status (Refusal.NoLabel drive) is = cc
refusal_status (Refusal.WrongDrive drive found) is = cc
refusal_status (Refusal.LabelDiffers drive) is = cc
refusal_status Refusal.BadHeader is = cc
refusal_status (Refusal.BadVersion found) is = cc
refusal_status Refusal.BadSections is = cc
refusal_status (Refusal.BadIndex dir place) is = cc
refusal_status (Refusal.BadSource source n) is = cc
refusal_status (Refusal.BadEdge edge) is = cc
refusal_status (Refusal.BadPadding page) is = cc
refusal_status (Refusal.NotMirror v) is = cc

-- where a refusal ended the work the status isn't 0
pub refused_status : (output : Output) (refusal : Refusal) (text : List ℕ) (status : ℕ) → IsWritten output (Some refusal) text status → status ≡ 0 → ⊥
refused_status output refusal text status written is_zero =
    elim written [
      | inl whole ↦ refusal_status refusal (sym whole.3 ∙ is_zero)
      | inr failed ↦ let four : ◌≡◌ {A = ℕ} 4 0 = sym failed.2 ∙ is_zero in cc
    ]

-- where a refusal with another status ended the work, the status isn't that of a work that came to its end
pub not_come : (output : Output) (refusal : Refusal) (text : List ℕ) (status : ℕ) → status_of refusal ≢ 0 → status_of refusal ≢ 8 →
    IsWritten output (Some refusal) text status → CameToEnd status → ⊥
not_come output refusal text status not_zero not_eight written came =
    elim written [
      | inl whole ↦ ⊎_elim (λ zero. not_zero (sym whole.3 ∙ zero)) (λ eight. not_eight (sym whole.3 ∙ eight)) came
      | inr failed ↦ ⊎_elim (λ zero. let four : ◌≡◌ {A = ℕ} 4 0 = sym failed.2 ∙ zero in cc) (λ eight. let four : ◌≡◌ {A = ℕ} 4 8 = sym failed.2 ∙ eight in cc) came
    ]

-- a job that is done, whose whole text comes at once
pub ends_done : {D : Type 0} (faults : D → ℕ) (olds news : List D) (comes : Outcome → Type 0) (leaves : Option Refusal → List ℕ → Type 0) (text : List ℕ) (output : Output) (status : ℕ) →
    NoneRose faults olds news → comes (at_once (Done text)) → leaves None text → IsWritten output None text status → EndsLeaving faults olds news comes leaves output status
ends_done faults olds news comes leaves text output status kept is left written = record {
  end = None;
  text = text;
  cause = (kept, record { last = text; is_outcome = record { outcome = at_once (Done text); is_one = is; closes = refl; text_is = refl } });
  left = left;
  written = written;
}

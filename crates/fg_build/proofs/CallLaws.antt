-- One call of drives after another: what was kept, read and counted.
use Rattle.std.proofs.Common.{◌≡◌, ◌∙◌, ℕ, ◌≤◌, Option, None, Some, IfSome, List, [], ◌∷◌, ◌++◌, ◌+◌, length, take, drop, map, Result, Ok, Err, refl, sym, ap, subst, min, arith}
use Rattle.std.proofs.lemmas.List.FromFn.{map-range_with_len_more, take-map-range_with_len}
use Rattle.std.proofs.lemmas.Grind.{common_steps}
use Rattle.std.proofs.lemmas.List.{take-append-drop}
use Rattle.std.proofs.Math.Seq.{take-append_seam}
use Rattle.std.specs.List.{range_with_len}
use Rattle.fg_base.specs.declared.refusal.Refusal.{Refusal}
use Rattle.fg_build.specs.Answers.{MatchOpening}
use Rattle.fg_build.specs.Calls.{AllRead, IsContent, IsOutside, Keeps, ReadFor, ReadUntil, SaysOf}
use Rattle.fg_outside.specs.declared.drive.Read.{Read}
use Rattle.fg_outside.specs.Drives.{DriveRead, EachSame, LogsGrewByFirst, NoneRose, RoseFirst, all_told}
use Rattle.fg_outside.proofs.DriveLemmas.{EachDrive-same, EachSame-more, LogsGrew-more, LogsGrew-none, LogsGrew-same, LogsGrewByFirst-all, LogsGrewByFirst-before, LogsGrewByFirst-more, RoomyKept-more, RoseFirst-after, all_told-same}

-- weaker facts for a refusal
pub MatchOpening-weaker : (refusal : Refusal) (A P : Type 0) (B Q : ℕ → Type 0) (C R : Type 0) → (A → P) → ((drive : ℕ) → B drive → Q drive) → (C → R)
    → MatchOpening refusal A B C → MatchOpening refusal P Q R
MatchOpening-weaker Refusal.Memory A P B Q C R memory drive content holds = memory holds
MatchOpening-weaker (Refusal.DriveFault number) A P B Q C R memory drive content holds = drive number holds
MatchOpening-weaker (Refusal.NoLabel number) A P B Q C R memory drive content holds = content holds
MatchOpening-weaker (Refusal.WrongDrive number found) A P B Q C R memory drive content holds = content holds
MatchOpening-weaker (Refusal.LabelDiffers number) A P B Q C R memory drive content holds = content holds
MatchOpening-weaker (Refusal.ShortDrive number have need) A P B Q C R memory drive content holds = content holds
MatchOpening-weaker Refusal.BadHeader A P B Q C R memory drive content holds = content holds
MatchOpening-weaker (Refusal.BadVersion found) A P B Q C R memory drive content holds = content holds
MatchOpening-weaker Refusal.BadSections A P B Q C R memory drive content holds = content holds
MatchOpening-weaker (Refusal.BadIndex dir place) A P B Q C R memory drive content holds = content holds
MatchOpening-weaker refusal A P B Q C R memory drive content holds = absurd holds

-- what a refusal of content says
pub MatchOpening-content : (refusal : Refusal) (A : Type 0) (B : ℕ → Type 0) (C : Type 0) → IsContent refusal → C → MatchOpening refusal A B C
MatchOpening-content refusal A B C is holds =
    MatchOpening-weaker refusal ⊥ A (λ drive. ⊥) B (Unit {0}) C (λ never. absurd never) (λ drive never. absurd never) (λ always. holds) is

-- a refusal that says one thing says what follows from it
pub SaysOf-weaker : (refusal : Refusal) (P Q : Type 0) → (P → Q) → SaysOf refusal P → SaysOf refusal Q
SaysOf-weaker refusal P Q weaker says =
    MatchOpening-weaker refusal (Unit {0}) (Unit {0}) (λ drive. Unit {0}) (λ drive. Unit {0}) P Q (λ u. u) (λ drive u. u) weaker says

-- one that isn't of content says all
pub SaysOf-outside : (refusal : Refusal) (P : Type 0) → IsOutside refusal → SaysOf refusal P
SaysOf-outside refusal P is = SaysOf-weaker refusal ⊥ P (λ never. absurd never) is

module _ {D : Type 0} (held : D → Option (List ℕ)) (room : D → Option ℕ) (faults : D → ℕ) where
  pub Keeps-none : (drives : List D) → Keeps held room faults drives drives
  Keeps-none drives = record {
    same_held = EachDrive-same _ (λ drive. refl) drives;
    same_room = EachDrive-same _ (λ drive. refl) drives;
    sure = EachDrive-same _ (λ drive told. refl) drives;
  }

  pub Keeps-more : (olds betweens news : List D) → Keeps held room faults olds betweens → Keeps held room faults betweens news → Keeps held room faults olds news
  Keeps-more olds betweens news one two = record {
    same_held = EachSame-more held olds betweens news one.same_held two.same_held;
    same_room = EachSame-more room olds betweens news one.same_room two.same_room;
    sure = RoomyKept-more room faults olds betweens news one.same_room one.sure two.sure;
  }

module _ {D : Type 0} (faults : D → ℕ) (log : D → Option (List Read)) where
  -- a call that reads nothing, and one of these that failed
  pub none_read : (olds news : List D) → NoneRose faults olds news → EachSame log olds news → AllRead faults log [] olds news
  none_read olds news none same = record { counts = none; logs = LogsGrew-same log olds news same }

  pub none_called : (drives : List D) → AllRead faults log [] drives drives
  none_called drives = record { counts = EachDrive-same _ (λ drive. refl) drives; logs = LogsGrew-none log drives }

  pub failed_before : (reads : List DriveRead) (drive : ℕ) (olds news : List D) → RoseFirst faults drive olds news → EachSame log olds news
      → ReadUntil faults log reads (Refusal.DriveFault drive) olds news
  failed_before reads drive olds news rose same = record { counts = rose; logs = LogsGrewByFirst-before log [] reads olds news (0, LogsGrew-same log olds news same) }

  -- all the first reads, and then all the others, or some
  pub AllRead-more : (first second : List DriveRead) (olds betweens news : List D) → AllRead faults log first olds betweens → AllRead faults log second betweens news
      → AllRead faults log (first ++ second) olds news
  AllRead-more first second olds betweens news one two = record {
    counts = EachSame-more faults olds betweens news one.counts two.counts;
    logs = LogsGrew-more log first second olds betweens news one.logs two.logs;
  }

  pub ReadUntil-more : (first second : List DriveRead) (refusal : Refusal) (olds betweens news : List D)
      → AllRead faults log first olds betweens → ReadUntil faults log second refusal betweens news → ReadUntil faults log (first ++ second) refusal olds news
  ReadUntil-more first second refusal olds betweens news one two = record {
    counts =
        MatchOpening-weaker refusal (NoneRose faults betweens news) (NoneRose faults olds news)
        (λ drive. RoseFirst faults drive betweens news) (λ drive. RoseFirst faults drive olds news) (NoneRose faults betweens news) (NoneRose faults olds news)
        (λ none. EachSame-more faults olds betweens news one.counts none)
        (λ drive rose. RoseFirst-after faults drive olds betweens news one.counts rose)
        (λ none. EachSame-more faults olds betweens news one.counts none)
        two.counts;
    logs = LogsGrewByFirst-more log first second olds betweens news one.logs two.logs;
  }

  -- some of the first reads are some of all
  pub ReadUntil-before : (first second : List DriveRead) (refusal : Refusal) (olds news : List D)
      → ReadUntil faults log first refusal olds news → ReadUntil faults log (first ++ second) refusal olds news
  ReadUntil-before first second refusal olds news until = record { counts = until.counts; logs = LogsGrewByFirst-before log first second olds news until.logs }

  pub ReadUntil-within : (reads : List DriveRead) (k : ℕ) (refusal : Refusal) (olds news : List D)
      → ReadUntil faults log (take k reads) refusal olds news → ReadUntil faults log reads refusal olds news
  ReadUntil-within reads k refusal olds news until =
      let P : List DriveRead → Type 0 = λ some. ReadUntil faults log some refusal olds news in
      subst P (take-append-drop k reads) (ReadUntil-before (take k reads) (drop k reads) refusal olds news until)

  -- what was read says this, or memory is wanting behind it
  pub content_behind : (reads : List DriveRead) (refusal : Refusal) (olds news : List D) → IsContent refusal → AllRead faults log reads olds news
      → ReadUntil faults log reads refusal olds news
  content_behind reads refusal olds news is all = record {
    counts = MatchOpening-content refusal _ _ _ is all.counts;
    logs = LogsGrewByFirst-all log reads olds news all.logs;
  }

  pub memory_behind : (reads : List DriveRead) (olds news : List D) → AllRead faults log reads olds news → ReadUntil faults log reads Refusal.Memory olds news
  memory_behind reads olds news all = record { counts = all.counts; logs = LogsGrewByFirst-all log reads olds news all.logs }

  -- reads one by one: one more of them, and a stop among them
  pub one_more : (read : ℕ → DriveRead) (first k next : ℕ) (olds betweens news : List D) → first + k ≡ next
      → AllRead faults log (map read (range_with_len first k)) olds betweens → AllRead faults log (read next ∷ []) betweens news
      → AllRead faults log (map read (range_with_len first (k + 1))) olds news
  one_more read first k next olds betweens news at one two =
      let P : List DriveRead → Type 0 = λ some. AllRead faults log some olds news in
      subst P (sym (map-range_with_len_more read first k next at)) (AllRead-more _ _ olds betweens news one two)

  pub stopped : (read : ℕ → DriveRead) (first count k next : ℕ) (refusal : Refusal) (olds betweens news : List D) → first + k ≡ next → k + 1 ≤ count
      → AllRead faults log (map read (range_with_len first k)) olds betweens → ReadUntil faults log (read next ∷ []) refusal betweens news
      → ReadUntil faults log (map read (range_with_len first count)) refusal olds news
  stopped read first count k next refusal olds betweens news at within one two =
      let P : List DriveRead → Type 0 = λ some. ReadUntil faults log some refusal olds news in
      ReadUntil-within (map read (range_with_len first count)) (k + 1) refusal olds news
      (subst P (sym (map-range_with_len_more read first k next at) ∙ sym (take-map-range_with_len read first count (k + 1) within))
      (ReadUntil-more _ _ refusal olds betweens news one two))

-- two facts of what is told
pub IfSome-both : {A : Type 0} (told : Option A) (P Q R : A → Type 0) → ((x : A) → P x → Q x → R x) → IfSome told P → IfSome told Q → IfSome told R
IfSome-both None P Q R both one two = tt
IfSome-both (Some x) P Q R both one two = both x one two

-- what is told after calls that changed nothing was told before
pub all_told-before : {D : Type 0} (held : D → Option (List ℕ)) (olds news : List D) (P : List (List ℕ) → Type 0) → EachSame held olds news
    → IfSome (all_told held news) P → IfSome (all_told held olds) P
all_told-before held olds news P same holds =
    let Q : Option (List (List ℕ)) → Type 0 = λ told. IfSome told P in
    subst Q (all_told-same held olds news same) holds

pub IfSome-all : {A : Type 0} (told : Option A) (P Q S T R : A → Type 0) → ((x : A) → P x → Q x → S x → T x → R x)
    → IfSome told P → IfSome told Q → IfSome told S → IfSome told T → IfSome told R
IfSome-all None P Q S T R all one two three four = tt
IfSome-all (Some x) P Q S T R all one two three four = all x one two three four

pub IfSome-always : {A : Type 0} (told : Option A) (P : A → Type 0) → ((x : A) → P x) → IfSome told P
IfSome-always None P holds = tt
IfSome-always (Some x) P holds = holds x

-- whatever the answer, some first of the reads were made
pub ReadFor-first : {D A : Type 0} (faults : D → ℕ) (log : D → Option (List Read)) (reads : List DriveRead) (olds news : List D) (result : Result A Refusal)
    → ReadFor faults log reads olds news result → LogsGrewByFirst log reads olds news
ReadFor-first faults log reads olds news (Ok answer) all = LogsGrewByFirst-all log reads olds news all.logs
ReadFor-first faults log reads olds news (Err refusal) until = until.logs

-- all that a list holds was written
pub whole_written : {A : Type 0} (items new : List A) (len : ℕ) → len ≡ length items → length new ≡ length items → take len (new ++ drop (length new) items) ≡ new
whole_written items new len all same =
    ap (λ (n : ℕ). take n (new ++ drop (length new) items)) (all ∙ sym same) ∙ take-append_seam new (drop (length new) items)

-- a first of a list is a first of a longer one
pub take-within : {A : Type 0} (first second : List A) (k : ℕ) → take k first ≡ take (min k (length first)) (first ++ second)
take-within first second k = grind (arith, common_steps)

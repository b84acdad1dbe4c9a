-- What a watch is shown of a run.
use Rattle.std.specs.Prelude.{◌≡◌, ℕ, ◌<◌, Option, List, ◌++◌, drop, length, take}
use Rattle.std.specs.List.{flat_map}
use Rattle.fg_base.specs.declared.plain.VState.{VState}
use Rattle.fg_base.specs.Told.{grown}
use Rattle.fg_model.specs.declared.iteration.Counts.{Counts}
use Rattle.fg_model.specs.declared.watch.IterLine.{IterLine}
use Rattle.fg_model.specs.Run.{Finished}

-- the line of a finished iteration
abbrev pub line_of : Finished → IterLine
line_of iteration =
    record {
      number = iteration.number;
      phase = iteration.begun.phase;
      active = length iteration.begun.active;
      messages = iteration.begun.messages;
    }

-- the line of a finished iteration as the code counts it
abbrev pub line_at : ℕ → ℕ → Counts → IterLine
line_at number phase counts = record { number = number; phase = phase; active = counts.active; messages = counts.messages }

-- it holds all that it held, and maybe more behind it; what doesn't tell what it holds still doesn't
abbrev pub Grew : {N : Type 0} → Option (List N) → Option (List N) → Type 0
Grew {N} old new = (more : List N) × (new ≡ grown old more)

-- what a watch tells of these iterations
unfoldable pub told_of : {N : Type 0} → (IterLine → List VState → List N) → List Finished → List N
told_of told finished = flat_map (λ iteration. told (line_of iteration) iteration.states) finished

-- the watch was shown all these iterations
abbrev pub ShownAll : {N : Type 0} → (IterLine → List VState → List N) → List Finished → Option (List N) → Option (List N) → Type 0
ShownAll told finished old new = new ≡ grown old (told_of told finished)

-- the watch was shown some first of them
abbrev pub ShownSome : {N : Type 0} → (IterLine → List VState → List N) → List Finished → Option (List N) → Option (List N) → Type 0
ShownSome told finished old new = (k : ℕ) × ShownAll told (take k finished) old new

-- the watch was shown some first of them, and a prefix of what it tells of the next
abbrev pub ShownPart : {N : Type 0} → (IterLine → List VState → List N) → List Finished → Option (List N) → Option (List N) → Type 0
ShownPart told finished old new =
    (k : ℕ) × (part : ℕ) × (k < length finished) × (new ≡ grown old (told_of told (take k finished) ++ take part (told_of told (take 1 (drop k finished)))))

-- What a closed cache tells of its drives, and of what was read and asked.
use Rattle.std.specs.Prelude.{◌≡◌, ℕ, zero, suc, ◌≤◌, ◌+◌, Option, Some, None, List, [], ◌∷◌, All, length}
use Rattle.std.specs.List.{sum_by}
use Rattle.fg_base.specs.Faults.{Rose}
use Rattle.fg_base.specs.Told.{grown}
use Rattle.fg_outside.specs.Drives.{RoseFirst, NoneRose}
use Rattle.fg_outside.specs.declared.drive.Read.{Read}
use Rattle.fg_cache.specs.Load.{IsAskedRead}
use Rattle.fg_cache.specs.Pass.{Token}
use Rattle.fg_cache.specs.Shelf.{stopped}
use Rattle.fg_cache.specs.Site.{Site, AllFit, asked_pages}

-- the least drive whose count of faults rose, or none where none did
abbrev pub LeastRisen : {D : Type 0} → (D → ℕ) → Option ℕ → List D → List D → Type 0
LeastRisen faults None olds news = NoneRose faults olds news
LeastRisen faults (Some drive) olds news = RoseFirst faults drive olds news

-- the count of the drive of this number rose
abbrev pub RoseAt : {D : Type 0} → (D → ℕ) → ℕ → List D → List D → Type 0
RoseAt faults zero (old ∷ olds) (new ∷ news) = Rose (faults old) (faults new)
RoseAt faults (suc drive) (old ∷ olds) (new ∷ news) = RoseAt faults drive olds news
RoseAt faults drive olds news = ⊥

-- each drive's log grew by its own of these lists of reads, which are of pages that may be asked for; the first drive has the number
-- `first`
abbrev pub LogsGrewFrom : {D : Type 0} → (D → Option (List Read)) → Site → ℕ → List (List Read) → List D → List D → Type 0
LogsGrewFrom log site first [] [] [] = Unit {0}
LogsGrewFrom log site first (more ∷ mores) (old ∷ olds) (new ∷ news) =
    All (IsAskedRead site first) more × (log new ≡ grown (log old) more) × LogsGrewFrom log site (suc first) mores olds news
LogsGrewFrom log site first mores olds news = ⊥

-- the pages of a list of reads
abbrev pub pages_read : List Read → ℕ
pages_read reads = sum_by (λ (read : Read). read.count) reads

-- Each log grew by reads of pages that may be asked for. Where no drive failed, these are the reads and pages that are counted, in counts
-- that stand still at the end of their type.
pub record LogsTell {D : Type 0} (log : D → Option (List Read)) (site : Site) (failed : Option ℕ) (reads pages : ℕ)
    (olds news : List D) : Type 0 where
  pub mores : List (List Read)
  pub grew : LogsGrewFrom log site 0 mores olds news
  pub reads_counted : failed ≡ None → reads ≡ stopped (sum_by (λ (more : List Read). length more) mores)
  pub pages_counted : failed ≡ None → pages ≡ stopped (sum_by pages_read mores)

-- sums over the passes
abbrev pub all_queued : List Token → ℕ
all_queued passes = sum_by (λ (pass : Token). pass.queued) passes

abbrev pub all_stale : List Token → ℕ
all_stale passes = sum_by (λ (pass : Token). pass.stale) passes

abbrev pub all_hits : List Token → ℕ
all_hits passes = sum_by (λ (pass : Token). pass.hits) passes

-- where no drive failed and each set has a way for each of its pages that may be asked for, each such page is read once, and once more
-- for each listing that was stale
abbrev pub ReadsFew : Site → Option ℕ → ℕ → List Token → Type 0
ReadsFew site failed pages passes = failed ≡ None → AllFit site → pages ≤ length (asked_pages site) + all_stale passes

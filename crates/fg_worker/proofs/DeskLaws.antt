-- A block at its desk: its jobs may be run, and what was counted for it.
use Rattle.std.proofs.Common.{◌≡◌, ℕ, ◌+◌, ◌^◌, ◌<◌, ◌≤◌, Bool, None, List, length, sym, subst, ap, arith}
use Rattle.fg_batch.specs.Outbox.{IsUnsent}
use Rattle.fg_part.specs.declared.part_map.PartMap.{PartMap}
use Rattle.fg_task.specs.declared.block_result.BlockResult.{BlockResult}
use Rattle.fg_task.specs.declared.job.Job.{Job}
use Rattle.fg_task.specs.Book.{ArePagesOf}
use Rattle.fg_task.specs.Jobs.{work_of}
use Rattle.fg_task.specs.Spending.{Counted, SpentOn, SpentUpTo}
use Rattle.fg_worker.specs.Beginning.{StandFor}
use Rattle.fg_task.specs.Block.{needed_of}
use Rattle.fg_worker.specs.Desk.{IsDesk, Setting, active_in, blocks_of, graph_of, work_in}
use Rattle.fg_worker.specs.Visiting.{MayGoOn, Moment, WentOn}
use Rattle.fg_worker.specs.Visits.{needed_pages}
use Rattle.fg_worker.proofs.ResultLaws.{counted-few, visits-few}

-- all jobs of a block can be run
pub may-run : (S : Setting) (block : ℕ) (now : Moment) → StandFor S (active_in S block) now.jobs → now.outbox.map ≡ S.map
    → now.entries + length (needed_of S.rules (graph_of S) (active_in S block)) < 2 ^ 64 → MayGoOn (work_in S) now
may-run S block now stand same_map room =
    let all = stand.entries in
    record {
      vertices = ap (λ (pmap : PartMap). pmap.n) same_map;
      few = omega (arith, all, room);
    }

-- a block's runs, entries and pages were counted
pub spent-exactly : (S : Setting) → IsDesk S → (block : ℕ) (jobs : List Job) (pages : List ℕ) (old new : Counted) (result : BlockResult)
    → StandFor S (active_in S block) jobs → ArePagesOf jobs pages → result.block ≡ block → new.runs ≡ old.runs + result.active
    → new.entries ≡ old.entries + result.sent → new.hits ≡ old.hits + length pages → SpentOn (blocks_of S) old new result
spent-exactly S desk block jobs pages old new result stand are own runs entries hits =
    let few = visits-few S desk block jobs pages stand are in
    let found : old.hits + length (needed_pages S.layout S.index S.rules.need (active_in S block)) ≤ new.hits = omega (arith, few, hits) in
    record {
      runs = runs;
      entries = entries;
      hits = λ none. subst (λ (number : ℕ). old.hits + length (needed_pages S.layout S.index S.rules.need (active_in S number)) ≤ new.hits) (sym own) found;
    }

-- what jobs are run by, where the book says by itself whether entries have weights
pub work-same : (S : Setting) (weighted : Bool) → weighted ≡ S.index.weighted → work_of S.rules S.map.n weighted ≡ work_in S
work-same S weighted same = ap (λ (some : Bool). work_of S.rules S.map.n some) same

-- whatever comes of a block, no more was counted for it than it has
pub spent-few : (S : Setting) → IsDesk S → (block : ℕ) (old new : Moment) → StandFor S (active_in S block) old.jobs → old.least ≡ None
    → IsUnsent old.outbox → old.outbox.map ≡ S.map → WentOn S.site (work_in S) old new → (first last : Counted)
    → last.runs ≤ first.runs + length (active_in S block) → old.entries ≡ first.entries → last.entries ≡ new.entries
    → SpentUpTo first last (length (active_in S block)) (length (needed_of S.rules (graph_of S) (active_in S block)))
spent-few S desk block old new stand fresh unsent same_map went first last runs begun ended =
    let few = counted-few S desk block old new stand fresh unsent same_map went in
    record { few_runs = runs; few_entries = omega (arith, few, begun, ended) }

-- Running the jobs of a page, group by group.
use Rattle.std.proofs.Common.{◌≡◌, ◌≢◌, ℕ, ◌+◌, ◌<◌, ◌≤◌, Option, None, List, ◌++◌, length, map, get_or, take, drop, subst, sym, ap, ◌∙◌}
use Rattle.std.specs.Prelude.{All}
use Rattle.std.proofs.lemmas.List.{get_or_default}
use Rattle.std.proofs.lemmas.List.Elements.{All-get_or}
use Rattle.fg_base.specs.declared.plain.BadEdge.{BadEdge}
use Rattle.fg_batch.specs.Outbox.{Sending}
use Rattle.fg_task.specs.declared.group.Group.{Group}
use Rattle.fg_task.specs.declared.group.Places.{Places}
use Rattle.fg_task.specs.declared.job.Job.{Job}
use Rattle.fg_task.specs.Groups.{AreOutside, IsGroup, emptied, group_at, jobs_in, waiting_on}
use Rattle.fg_task.specs.Jobs.{Work}
use Rattle.fg_task.specs.Least.{Joins}
use Rattle.fg_task.specs.Running.{CanRun, HasRun}
use Rattle.fg_task.proofs.GroupLaws.{begins-waiting, ends-waiting, read-next, waiting_on-here, waiting_on-other, waiting_on-split}
use Rattle.fg_task.proofs.RunLaws.{can_run-first, can_run-next, has_run-more, has_run-none}

-- the group that is read is the next one
pub group-read : (page : ℕ) (groups now : List Group) (at : ℕ) (group : Group) → at < length groups → now ≡ map (emptied page) (take at groups) ++ drop at groups
    → group ≡ get_or now at group → group_at groups at ≡ group
group-read page groups now at group below left read =
    sym (read ∙ ap (λ (gs : List Group). get_or gs at group) left ∙ read-next page groups at group below
    ∙ get_or_default groups at group (record { page = 0; from = 0; to = 0 }) below)

pub group-is : (jobs : List Job) (groups : List Group) (at : ℕ) (group : Group) → at < length groups → group_at groups at ≡ group → All (IsGroup jobs) groups → IsGroup jobs group
group-is jobs groups at group below is each =
    subst (IsGroup jobs) is (All-get_or (IsGroup jobs) groups at (record { page = 0; from = 0; to = 0 }) below each)

module _ (work : Work) (bytes : List ℕ) (page : ℕ) (jobs : List Job) (groups : List Group) where
  -- no group on the page comes before these places, and none behind
  pub groups-begin : (places : Places) → AreOutside page places groups → places.from ≤ length groups → (outbox : Sending) (counted : ℕ)
      → HasRun work bytes (waiting_on page jobs (take places.from groups)) outbox outbox counted counted None
  groups-begin places outside within outbox counted =
      subst (λ (some : List Job). HasRun work bytes some outbox outbox counted counted None) (sym (begins-waiting page jobs groups places outside within))
      (has_run-none work bytes outbox counted)

  pub groups-end : (places : Places) → AreOutside page places groups → (old now : Sending) (counted counted_now : ℕ) (bad : Option BadEdge)
      → HasRun work bytes (waiting_on page jobs (take places.to groups)) old now counted counted_now bad
      → HasRun work bytes (waiting_on page jobs groups) old now counted counted_now bad
  groups-end places outside old now counted counted_now bad ran =
      subst (λ (all : List Job). HasRun work bytes all old now counted counted_now bad) (ends-waiting page jobs groups places outside) ran

  module _ (at : ℕ) (group : Group) (below : at < length groups) (is : group_at groups at ≡ group) (old now : Sending) (counted counted_now : ℕ) (bad : Option BadEdge)
      (ran : HasRun work bytes (waiting_on page jobs (take at groups)) old now counted counted_now bad) where
    -- where the next group is on the page, its jobs can be run, and were run
    pub group-can_run : group.page ≡ page → CanRun work bytes (waiting_on page jobs groups) old counted → CanRun work bytes (jobs_in jobs group) now counted_now
    group-can_run same can =
        can_run-first work bytes (jobs_in jobs group) (waiting_on page jobs (drop (at + 1) groups)) now counted_now
        (can_run-next work bytes (waiting_on page jobs (take at groups)) (jobs_in jobs group ++ waiting_on page jobs (drop (at + 1) groups)) old now counted counted_now bad
        (subst (λ (all : List Job). CanRun work bytes all old counted) (waiting_on-split page jobs groups at group below is same) can) ran)

    pub group-has_run : group.page ≡ page → (new : Sending) (counted_then : ℕ) (other both : Option BadEdge)
        → HasRun work bytes (jobs_in jobs group) now new counted_now counted_then other → Joins bad other both
        → HasRun work bytes (waiting_on page jobs (take (at + 1) groups)) old new counted counted_then both
    group-has_run same new counted_then other both next joins =
        subst (λ (some : List Job). HasRun work bytes some old new counted counted_then both) (sym (waiting_on-here page jobs groups at group below is same))
        (has_run-more work bytes (waiting_on page jobs (take at groups)) (jobs_in jobs group) old now new counted counted_now counted_then bad other both ran next joins)

    -- on another page it is skipped
    pub group-skipped : group.page ≢ page → HasRun work bytes (waiting_on page jobs (take (at + 1) groups)) old now counted counted_now bad
    group-skipped other =
        subst (λ (some : List Job). HasRun work bytes some old now counted counted_now bad) (sym (waiting_on-other page jobs groups at group below is other)) ran

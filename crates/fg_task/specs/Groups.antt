-- Jobs in groups, each of which stands side by side and waits for one page.
use Rattle.std.specs.Prelude.{◌≡◌, ◌≢◌, ℕ, ◌≤◌, ◌<◌, ◌-◌, ◌==◌, ◌⊎◌, Bool, true, List, [], All, length, slice_index_or, slice_set, if◌then◌else◌}
use Rattle.std.specs.List.{flat_map, slice_range}
use Rattle.fg_task.specs.declared.job.Job.{Job}
use Rattle.fg_task.specs.declared.group.Group.{Group}
use Rattle.fg_task.specs.declared.group.Places.{Places}

-- the jobs of a group
abbrev pub jobs_in : List Job → Group → List Job
jobs_in jobs group = slice_range jobs group.from group.to

-- the jobs that wait
abbrev pub waiting : List Job → List Group → List Job
waiting jobs groups = flat_map (jobs_in jobs) groups

-- those of the groups on a page
abbrev pub waiting_on : ℕ → List Job → List Group → List Job
waiting_on page jobs groups = flat_map (λ (group : Group). if group.page == page then jobs_in jobs group else []) groups

-- without the jobs of the groups on a page
abbrev pub emptied : ℕ → Group → Group
emptied page group = if group.page == page then (record { page = group.page; from = group.from; to = group.from }) else group

-- a group's jobs are there, and on its page
pub record IsGroup (jobs : List Job) (group : Group) : Type 0 where
  pub order : group.from ≤ group.to
  pub within : group.to ≤ length jobs
  pub on_page : All (λ (job : Job). job.segment.page ≡ group.page) (jobs_in jobs group)

-- the group of this number, and its page
abbrev pub group_at : List Group → ℕ → Group
group_at groups k = slice_index_or groups k (record { page = 0; from = 0; to = 0 })

abbrev pub page_at : List Group → ℕ → ℕ
page_at groups k = (group_at groups k).page

-- no page has two groups, and they are in the order of their pages
abbrev pub Ascends : List Group → Type 0
Ascends groups = (i j : ℕ) → i < j → j < length groups → page_at groups i < page_at groups j

-- all are groups, and ascend where that is said
pub record AreGroups (jobs : List Job) (groups : List Group) (ascending : Bool) : Type 0 where
  pub each : All (IsGroup jobs) groups
  pub ascends : ascending ≡ true → Ascends groups

-- outside of these places no group is on this page
abbrev pub AreOutside : ℕ → Places → List Group → Type 0
AreOutside page places groups = (k : ℕ) → k < length groups → (k < places.from) ⊎ (places.to ≤ k) → page_at groups k ≢ page

-- the last group is on this page and ends at the job of this number
pub record EndsAt (page at : ℕ) (groups : List Group) : Type 0 where
  pub some : 0 < length groups
  pub on_page : (group_at groups (length groups - 1)).page ≡ page
  pub ends : (group_at groups (length groups - 1)).to ≡ at

-- the last group ends there
abbrev pub with_last_to : ℕ → List Group → List Group
with_last_to to groups = slice_set groups (length groups - 1) (record (group_at groups (length groups - 1)) { to = to })

-- the page comes behind that of the last group, if there is one
abbrev pub IsBehind : ℕ → List Group → Type 0
IsBehind page groups = 0 < length groups → page_at groups (length groups - 1) < page

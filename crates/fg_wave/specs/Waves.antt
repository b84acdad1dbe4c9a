-- What comes of running the blocks of a list, in waves.
use Rattle.std.specs.Prelude.{◌≡◌, ℕ, ◌+◌, ◌<◌, ◌≤◌, ◌++◌, true, Option, None, List, IsPermutation, length, map as each, slice_index_or}
use Rattle.std.specs.List.{flat_map, sum_by}
use Rattle.fg_crew.specs.declared.slot.Slot.{Slot}
use Rattle.fg_gather.specs.Arrivals.{HasCome}
use Rattle.fg_model.specs.declared.mail.Mail.{Mail}
use Rattle.fg_model.specs.Program.{Rules}
use Rattle.fg_part.specs.declared.part_map.PartMap.{PartMap}
use Rattle.fg_task.specs.Blocks.{Blocks}
use Rattle.fg_task.specs.Spending.{Counted, HasRoom, SpentOnList}
use Rattle.fg_wave.specs.declared.told.Told.{Told}
use Rattle.fg_wave.specs.Telling.{first_some}

-- the runs and the entries of all these blocks can be counted
abbrev pub HasRoomForList : Blocks → List ℕ → Counted → Type 0
HasRoomForList blocks list spent = HasRoom spent (sum_by blocks.active_of list) (sum_by blocks.needed_of list)

-- each worker counted no more than all these blocks ask for
abbrev pub EachSpentOnList : {K F : Type 0} → (K → Counted) → Blocks → List ℕ → List (Slot K F) → List (Slot K F) → Type 0
EachSpentOnList spent blocks list old new =
    (k : ℕ) (d : Slot _ _) → k < length old → SpentOnList blocks list (spent (slice_index_or old k d).kept) (spent (slice_index_or new k d).kept)

-- What these blocks told: just what they come to together where none has a bad edge, else no more, and the first bad edge in their order.
pub record IsTold (blocks : Blocks) (list : List ℕ) (told : Told) : Type 0 where
  pub few_active : told.active ≤ sum_by blocks.active_of list
  pub few_sent : told.sent ≤ sum_by blocks.needed_of list
  pub all_active : told.bad ≡ None → told.active ≡ sum_by blocks.active_of list
  pub all_sent : told.bad ≡ None → told.sent ≡ sum_by blocks.needed_of list
  pub bad : blocks.knows ≡ true → told.bad ≡ first_some (each blocks.bad_of list)

-- all workers together counted just what was told, and without a bad edge at least the pages of all these blocks
pub record SpentAsTold (blocks : Blocks) (list : List ℕ) (old new : List Counted) (told : Told) : Type 0 where
  pub runs : sum_by (λ (spent : Counted). spent.runs) new ≡ sum_by (λ (spent : Counted). spent.runs) old + told.active
  pub entries : sum_by (λ (spent : Counted). spent.entries) new ≡ sum_by (λ (spent : Counted). spent.entries) old + told.sent
  pub hits : told.bad ≡ None
      → sum_by (λ (spent : Counted). spent.hits) old + sum_by blocks.visits_of list ≤ sum_by (λ (spent : Counted). spent.hits) new

-- Messages came to the parts behind those before: those of all these blocks, in any order, where the blocks are known and none has a bad edge.
pub record HasMoreCome (P : Rules) (map : PartMap) (blocks : Blocks) (list : List ℕ) (told : Told)
    (before : List Mail) (parts : List (List (Option ℕ))) : Type 0 where
  pub mail : List Mail
  pub come : HasCome P map parts (before ++ mail)
  pub own : blocks.knows ≡ true → told.bad ≡ None → IsPermutation (flat_map blocks.mail_of list) mail

-- whatever had come before
abbrev pub MoreCame : Rules → PartMap → Blocks → List ℕ → Told → List (List (Option ℕ)) → List (List (Option ℕ)) → Type 0
MoreCame P map blocks list told old new = (before : List Mail) → HasCome P map old before → HasMoreCome P map blocks list told before new

-- What was sent and not yet taken out, lane by lane.
use Rattle.std.specs.Prelude.{◌≡◌, ◌≢◌, ℕ, ◌*◌, ◌/◌, ◌%◌, ◌^◌, ◌<◌, ◌≤◌, ◌==◌, ◌++◌, Bool, not, List, [], All, filter, length, map as each, slice_index_or}
use Rattle.std.specs.List.{flat_map, range_with_len}
use Rattle.fg_batch.specs.declared.batch.Batch.{Batch}
use Rattle.fg_batch.specs.Lanes.{IsFor, lane_of, lanes_each}
use Rattle.fg_batch.specs.Mails.{MailList}
use Rattle.fg_model.specs.declared.mail.Mail.{Mail}
use Rattle.fg_model.specs.Iteration.{sent_to}
use Rattle.fg_part.specs.declared.part_map.PartMap.{PartMap}
use Rattle.fg_part.specs.PartMap.{part_of}

-- the lanes of all parts: those of part 0, then those of part 1 and so on
pub record Sending : Type 0 where
  pub map : PartMap
  pub lanes : List MailList

-- what a lane holds, and how many more messages it takes without memory
abbrev pub lane_at : List MailList → ℕ → MailList
lane_at lanes l = slice_index_or lanes l (record { items = []; room = 0 })

-- a message goes along this lane
abbrev pub goes_along : PartMap → ℕ → Mail → Bool
goes_along map l mail = lane_of map mail.target == l

-- these messages were sent: each lane has those that go along it behind what it had
pub record Sends (old new : Sending) (mails : List Mail) : Type 0 where
  pub same_map : new.map ≡ old.map
  pub same_count : length new.lanes ≡ length old.lanes
  pub more : (l : ℕ) → l < length old.lanes → (lane_at new.lanes l).items ≡ (lane_at old.lanes l).items ++ filter (goes_along old.map l) mails

-- all that is sent to a vertex goes along its lane, in order, and nothing of it along another
pub record KeepsOrder (map : PartMap) : Type 0 where
  pub own : (v : ℕ) (mails : List Mail) → sent_to v (filter (goes_along map (lane_of map v)) mails) ≡ sent_to v mails
  pub other : (v l : ℕ) (mails : List Mail) → l ≢ lane_of map v → sent_to v (filter (goes_along map l) mails) ≡ []

-- so many more can be sent without memory, whatever their targets
abbrev pub HasRoom : ℕ → Sending → Type 0
HasRoom count sending = (l : ℕ) → l < length sending.lanes → count ≤ (lane_at sending.lanes l).room

-- nothing is sent, and each part has its lanes
pub record IsUnsent (sending : Sending) : Type 0 where
  pub count : length sending.lanes ≡ sending.map.parts * lanes_each sending.map
  pub none : (l : ℕ) → (lane_at sending.lanes l).items ≡ []

-- what one block sent to one lane of a part
pub record LaneMail : Type 0 where
  pub block : ℕ
  pub part : ℕ
  pub lane : ℕ
  pub mails : List Mail

abbrev pub told_by : Batch → LaneMail
told_by batch = record { block = batch.block; part = batch.part; lane = batch.lane; mails = batch.mails.items }

-- what the block sent along the lane l, of those that each part has
abbrev pub lane_mail : ℕ → ℕ → List MailList → ℕ → LaneMail
lane_mail block lanes_of_part lanes l = record { block = block; part = l / lanes_of_part; lane = l % lanes_of_part; mails = (lane_at lanes l).items }

abbrev pub has_mail : LaneMail → Bool
has_mail lane = not (length lane.mails == 0)

-- the lanes that aren't empty, in order
abbrev pub lanes_with_mail : ℕ → ℕ → List MailList → List LaneMail
lanes_with_mail block lanes_of_part lanes = filter has_mail (each (lane_mail block lanes_of_part lanes) (range_with_len 0 (length lanes)))

-- a batch stands in one of the lanes of its part, and goes to vertices of that part alone
pub record IsForItsPart (map : PartMap) (batch : Batch) : Type 0 where
  pub part : batch.part < map.parts
  pub lane : batch.lane < lanes_each map
  pub mails : All (IsFor map batch.part) batch.mails.items

-- what was sent stands in the batches: one for each lane that isn't empty
pub record AreBatches (sending : Sending) (block : ℕ) (batches : List Batch) : Type 0 where
  pub lanes : each told_by batches ≡ lanes_with_mail block (lanes_each sending.map) sending.lanes
  pub fit : All (IsForItsPart sending.map) batches

-- all messages in batches
abbrev pub mail_in : List Batch → List Mail
mail_in batches = flat_map (λ (batch : Batch). batch.mails.items) batches

-- what stands in the batches of a part
abbrev pub batched_for : ℕ → List Batch → List Mail
batched_for part batches = mail_in (filter (λ (batch : Batch). batch.part == part) batches)

-- where these messages were sent, the batches of a vertex's part have all that was sent to the vertex, in order
abbrev pub HoldsAllSent : Sending → Sending → Type 0
HoldsAllSent first sending =
    (mails : List Mail) (block : ℕ) (batches : List Batch) → IsUnsent first → Sends first sending mails → AreBatches sending block batches
    → (v : ℕ) → v < first.map.n → sent_to v (batched_for (part_of first.map v) batches) ≡ sent_to v mails

-- a message to a vertex along this lane
pub record IsAlong (map : PartMap) (l : ℕ) (mail : Mail) : Type 0 where
  pub vertex : mail.target < map.n
  pub own : lane_of map mail.target ≡ l

abbrev pub AreAlong : PartMap → List MailList → Type 0
AreAlong map lanes = (l : ℕ) → All (IsAlong map l) (lane_at lanes l).items

-- each part has its lanes, along which its messages go
pub record IsOutbox (map : PartMap) (lanes_of_part : ℕ) (lanes : List MailList) : Type 0 where
  pub right : lanes_of_part ≡ lanes_each map
  pub few : lanes_of_part ≤ 2 ^ 16
  pub count : length lanes ≡ map.parts * lanes_of_part
  pub fits : AreAlong map lanes

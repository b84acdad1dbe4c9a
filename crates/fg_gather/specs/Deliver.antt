-- The batches of a wave, and those of a part in the order in which they are delivered: lane by lane.
use Rattle.std.specs.Prelude.{ℕ, ◌==◌, ◌&&◌, Bool, List, filter}
use Rattle.std.specs.List.{flat_map, range_with_len}
use Rattle.std.specs.declared.vec.Vec.{Vec}
use Rattle.fg_batch.specs.declared.batch.Batch.{Batch}
use Rattle.fg_batch.specs.Inbox.{Holding, with_all}
use Rattle.fg_batch.specs.Lanes.{lanes_each}
use Rattle.fg_batch.specs.Outbox.{mail_in}
use Rattle.fg_model.specs.declared.mail.Mail.{Mail}
use Rattle.fg_model.specs.Program.{Rules}

-- all batches of a wave
abbrev pub batches_in : {Z : Type 0} → List (Vec Batch Z) → List Batch
batches_in wave = flat_map (λ batches. batches.items) wave

-- a batch stands in this lane of the part
abbrev pub is_along : ℕ → ℕ → Batch → Bool
is_along part lane batch = (batch.part == part) && (batch.lane == lane)

-- the messages in batches of a lane of the part
abbrev pub mail_along : ℕ → List Batch → ℕ → List Mail
mail_along part batches lane = mail_in (filter (is_along part lane) batches)

-- the messages in batches of the part, lane by lane
abbrev pub mail_for : ℕ → ℕ → List Batch → List Mail
mail_for part lanes batches = flat_map (mail_along part batches) (range_with_len 0 lanes)

-- an inbox that took them
abbrev pub delivered : {X : Type 0} → Rules → List Batch → Holding X → Holding X
delivered P batches inbox = record {
  program = inbox.program;
  map = inbox.map;
  part = inbox.part;
  held = with_all P inbox.map inbox.held (mail_for inbox.part (lanes_each inbox.map) batches);
}

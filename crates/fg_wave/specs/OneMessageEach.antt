-- What the tests' workers run: blocks of one run each, which send one message.
use Rattle.std.specs.Prelude.{◌≡◌, ℕ, false, None, List, [], ◌∷◌, All}
use Rattle.fg_batch.specs.declared.batch.Batch.{Batch}
use Rattle.fg_batch.specs.Outbox.{IsForItsPart, mail_in}
use Rattle.fg_model.specs.declared.mail.Mail.{Mail}
use Rattle.fg_part.specs.declared.part_map.PartMap.{PartMap}
use Rattle.fg_task.specs.Blocks.{Blocks}
use Rattle.fg_task.specs.Spending.{Counted}

abbrev pub one_message_each : PartMap → Blocks
one_message_each blocks = record {
  map = blocks;
  knows = false;
  mail_of = λ _. [];
  active_of = λ _. 1;
  needed_of = λ _. 1;
  bad_of = λ _. None;
  visits_of = λ _. 1;
}

-- so many runs, each with an entry and a page
abbrev pub spent_on_messages : ℕ → Counted
spent_on_messages runs = record { runs = runs; entries = runs; hits = runs }

-- the message is in the batches, which go to its part
pub record AreOfOne (map : PartMap) (mail : Mail) (batches : List Batch) : Type 0 where
  pub fit : All (IsForItsPart map) batches
  pub one : mail_in batches ≡ mail ∷ []

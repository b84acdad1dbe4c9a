use Rattle.std.proofs.Common.{◌≡◌, take}
use Rattle.std.specs.Prelude.{All}
use Rattle.fg_batch.specs.Outbox.{IsForItsPart, mail_in}
use Rattle.fg_iter.proofs.tests.batches_of.Given as goal

abbrev pub invariant-loop-mail : goal.invariant-loop-mail
invariant-loop-mail l = record {
  fit : All (IsForItsPart l.map) l.batches.items;
  all : mail_in l.batches.items ≡ take l.mail-index l.mails;
}

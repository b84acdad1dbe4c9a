use Rattle.std.proofs.Common.{List, subst, sym, take, ◌∙◌, ap}
use Rattle.std.specs.Prelude.{All}
use Rattle.std.proofs.lemmas.List.{take_more}
use Rattle.std.proofs.lemmas.List.Elements.{All-push}
use Rattle.fg_batch.specs.declared.batch.Batch.{Batch}
use Rattle.fg_batch.specs.Outbox.{IsForItsPart, mail_in}
use Rattle.fg_iter.proofs.SentLaws.{mail_more}
use Rattle.fg_iter.proofs.tests.batches_of.Goals as goal

pub loop-mail-preserved : goal.loop-mail-preserved
loop-mail-preserved c =
    let was = c.loop-mail.batches.items in
    let batch = c.in_ok-batch_of.field-0 in
    let now = c.in_ok-push.ensures.items in
    record {
      fit = subst (λ (all : List Batch). All (IsForItsPart c.args.map) all) (sym now)
          (All-push (IsForItsPart c.args.map) was batch c.loop-mail.invariant.fit c.in_ok-batch_of.ensures.part);
      all = ap (λ (all : List Batch). mail_in all) now ∙ mail_more was batch (take c.loop-mail.mail-index c.args.mails.now) _ c.loop-mail.invariant.all c.in_ok-batch_of.ensures.mail
          ∙ sym (take_more c.args.mails.now c.loop-mail.mail-index _ c.loop-mail-test.true);
    }

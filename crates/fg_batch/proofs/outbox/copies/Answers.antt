use Rattle.std.proofs.Common.{◌≡◌, ℕ, ◌/◌, ◌%◌, ◌==◌, List, length, sym, ap, ◌∙◌}
use Rattle.fg_batch.proofs.LaneLaws.{lane-empty, lane-read, lane-told, told-fit}
use Rattle.fg_batch.specs.declared.batch.Batch.{Batch}
use Rattle.fg_batch.specs.Mails.{MailList}
use Rattle.fg_batch.specs.Outbox.{lane_at, lane_mail, told_by}
use Rattle.fg_model.specs.declared.mail.Mail.{Mail}
use Rattle.fg_batch.proofs.outbox.copies.Goals.{then-not-is_empty+in_ok-copy+in_ok-push, else-not-is_empty}
use Rattle.fg_batch.proofs.outbox.copies.Goals as goal

pub loop-at-preserved : goal.loop-at-preserved
loop-at-preserved c =
    let lanes : List MailList = c.args.lanes.now in
    let at : ℕ = c.loop-at.at in
    let of_part : ℕ = c.args.lanes_of_part in
    let kept = c.loop-at.invariant in
    let read : c.index-lanes-at.result ≡ lane_at lanes at = lane-read lanes at c.index-lanes-at.result c.loop-at-test.true c.index-lanes-at.is in
    let test : c.is_empty.result ≡ (length (lane_at lanes at).items == 0) = c.is_empty.ensures ∙ ap (λ (lane : MailList). length lane.items == 0) read in
    elim c.if-not-is_empty.branch [
      | then-not-is_empty+in_ok-copy+in_ok-push w ↦
          let batch : Batch = record { block = c.args.block; part = at / of_part; lane = at % of_part; mails = w.in_ok-copy.field-0 } in
          let copied : w.in_ok-copy.field-0.items ≡ (lane_at lanes at).items = w.in_ok-copy.ensures ∙ ap (λ (lane : MailList). lane.items) read in
          let same : told_by batch ≡ lane_mail c.args.block of_part lanes at =
          ap (λ (mails : List Mail). record { block = c.args.block; part = at / of_part; lane = at % of_part; mails = mails }) copied in
          rw (w.batches-is, w.in_ok-push.ensures.items) (record {
            lanes = lane-told c.args.block of_part lanes at c.loop-at.batches.items batch kept.lanes (sym test ∙ w.if-not-is_empty.true) same;
            fit = told-fit c.args.map lanes c.args.block of_part at c.requires.right c.requires.count c.loop-at-test.true c.requires.fits c.loop-at.batches.items batch same kept.fit;
          })
      | else-not-is_empty w ↦
          rw w.batches-is (record {
            lanes = lane-empty c.args.block of_part lanes at c.loop-at.batches.items kept.lanes (sym test ∙ w.if-not-is_empty.false);
            fit = kept.fit;
          })
    ]

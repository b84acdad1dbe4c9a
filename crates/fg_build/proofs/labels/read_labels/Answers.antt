use Rattle.std.proofs.Common.{◌∙◌, arith, refl}
use Rattle.fg_build.specs.Labels.{need_of}
use Rattle.fg_build.specs.OpeningReads.{alone}
use Rattle.fg_build.proofs.CallLaws.{Keeps-more, none_called, one_more, stopped}
use Rattle.fg_build.proofs.RefusalLaws.{enough_all, enough_first, enough_more, labels_begin, labels_end, labels_more, labels_stop}
use Rattle.fg_build.proofs.ToldLaws.{IsRefusedAt-behind, RefusedTold-at, ToldNeeds-first, ToldNeeds-more}
use Rattle.fg_build.proofs.labels.read_labels.Goals as goal

pub loop-drive-init : goal.loop-drive-init
loop-drive-init g c = record {
  keeps = c.read_first.ensures.keeps;
  reads = one_more g.D.Drive.faults g.D.Drive.log (λ drive. alone drive 0) 0 0 0 _ _ _ refl (none_called g.D.Drive.faults g.D.Drive.log c.args.drives.now) c.in-Ok.ensures.reads;
  told = enough_first g.D.Drive.told (λ number. need_of number c.in-Ok.first) c.args.drives.now c.read_first.new.drives c.in-Ok.ensures.told;
  answer = labels_begin g.D.Drive.held c.args.drives.now c.in-Ok.first c.in-Ok.ensures.answer c.requires.some;
  many = c.read_first.auto.drives;
  asked = ToldNeeds-first g.D.Drive.told c.in-Ok.first c.args.drives.now c.read_first.new.drives c.in-Ok.ensures.told;
}

pub returns-in-Err-check_drive-clause-answer : goal.returns-in-Err-check_drive-clause-answer
returns-in-Err-check_drive-clause-answer g c =
    let so_far = c.loop-drive.invariant in
    labels_stop g.D.Drive.held c.args.drives.now c.in-Ok.first c.in-Ok.ensures.answer c.loop-drive.drive c.loop-drive.drives so_far.keeps.same_held so_far.many so_far.answer
    c.in-Err-check_drive.refusal (omega (arith, c.loop-drive-test.true)) c.in-Err-check_drive.ensures.answer

pub returns-in-Err-check_drive-clause-keeps : goal.returns-in-Err-check_drive-clause-keeps
returns-in-Err-check_drive-clause-keeps g c =
    Keeps-more _ _ _ _ c.loop-drive.drives _ c.loop-drive.invariant.keeps c.check_drive.ensures.keeps

pub returns-in-Err-check_drive-clause-reads : goal.returns-in-Err-check_drive-clause-reads
returns-in-Err-check_drive-clause-reads g c =
    stopped g.D.Drive.faults g.D.Drive.log (λ drive. alone drive 0) 0 _ c.loop-drive.drive c.loop-drive.drive _ _ c.loop-drive.drives _ (omega arith) (omega (arith, c.loop-drive-test.true))
    c.loop-drive.invariant.reads c.in-Err-check_drive.ensures.reads

pub loop-drive-preserved : goal.loop-drive-preserved
loop-drive-preserved g c =
    let so_far = c.loop-drive.invariant in
    record {
      keeps = Keeps-more _ _ _ _ c.loop-drive.drives _ so_far.keeps c.check_drive.ensures.keeps;
      reads = one_more g.D.Drive.faults g.D.Drive.log (λ drive. alone drive 0) 0 c.loop-drive.drive c.loop-drive.drive _ c.loop-drive.drives _ (omega arith) so_far.reads c.in_default.ensures.reads;
      told = enough_more g.D.Drive.told (λ number. need_of number c.in-Ok.first) c.loop-drive.drive c.loop-drive.drives c.check_drive.new.drives c.in_default.ensures.told so_far.told;
      answer =
          labels_more g.D.Drive.held c.args.drives.now c.in-Ok.first c.in-Ok.ensures.answer c.loop-drive.drive c.loop-drive.drives so_far.keeps.same_held so_far.many so_far.answer
          (omega (arith, c.loop-drive-test.true)) c.in_default.ensures.answer;
      many = c.check_drive.auto.drives ∙ so_far.many;
      asked = ToldNeeds-more g.D.Drive.told c.in-Ok.first c.loop-drive.drive _ c.loop-drive.drives c.check_drive.new.drives so_far.asked c.in_default.ensures.told;
    }

pub returns-clause-answer : goal.returns-clause-answer
returns-clause-answer g c =
    let so_far = c.loop-drive.invariant in
    labels_end g.D.Drive.held c.args.drives.now c.in-Ok.first c.in-Ok.ensures.answer c.loop-drive.drive c.loop-drive.drives so_far.keeps.same_held so_far.many so_far.answer
    (omega (arith, c.loop-drive-test.false))

pub returns-clause-told : goal.returns-clause-told
returns-clause-told g c =
    let so_far = c.loop-drive.invariant in (
      omega (arith, so_far.many, c.in-Ok.ensures.same),
      enough_all g.D.Drive.told (λ number. need_of number c.in-Ok.first) c.loop-drive.drive c.loop-drive.drives (omega (arith, so_far.many, c.loop-drive-test.false)) so_far.told,
    )

pub returns-in-Err-clause-told_err : goal.returns-in-Err-clause-told_err
returns-in-Err-clause-told_err g c =
    let refused = c.in-Err.ensures.told_err in RefusedTold-at g.D.Drive.told 0 c.in-Err.refusal _ _ refused.0 refused.1

pub returns-in-Err-check_drive-clause-told_err : goal.returns-in-Err-check_drive-clause-told_err
returns-in-Err-check_drive-clause-told_err g c =
    let refusal = c.in-Err-check_drive.refusal in
    let refused = c.in-Err-check_drive.ensures.told_err in
    RefusedTold-at g.D.Drive.told c.loop-drive.drive refusal _ _ refused.0
    (IsRefusedAt-behind g.D.Drive.told c.in-Ok.first c.loop-drive.drive refusal _ c.loop-drive.drives _ c.in-Ok.ensures.same (omega (arith, c.loop-drive-test.true)) c.loop-drive.invariant.asked refused.1)

use Rattle.std.proofs.Common.{◌∙◌, sym, length}
use Rattle.fg_build.specs.Labels.{need_of}
use Rattle.fg_build.proofs.RefusalLaws.{passed_need, told_enough}
use Rattle.fg_build.proofs.ToldLaws.{IsUnlabelled-of, ToldHere-none, ToldHere-some, refused_told}
use Rattle.fg_build.proofs.labels.check_drive.Goals as goal

pub returns-clause-told : goal.returns-clause-told
returns-clause-told g c =
    told_enough g.D.Drive.told c.args.drive c.in-Ok.found.pages (need_of c.args.drive c.args.first.now) c.args.drives.now c.read_label.new.drives
    (passed_need _ c.args.first.now c.args.drive c.in-Ok.found.pages c.in-Ok.found.label c.requires.same (sym c.refusal_by.ensures ∙ c.in_default.is))
    c.in-Ok.ensures.told

pub returns-in-Err-clause-told_err : goal.returns-in-Err-clause-told_err
returns-in-Err-clause-told_err g c =
    let refusal = c.in-Err.refusal in
    let unlabelled = c.in-Err.ensures.told_err in
    (IsUnlabelled-of c.args.drive refusal unlabelled.0, ToldHere-none g.D.Drive.told c.args.first.now c.args.drive refusal _ _ unlabelled.0 unlabelled.1)

pub returns-in-Some-clause-told_err : goal.returns-in-Some-clause-told_err
returns-in-Some-clause-told_err g c =
    let found = c.in-Ok.found in
    let refusal = c.in-Some.refusal in
    let refused =
    refused_told (length c.args.drives.now) c.args.first.now c.args.drive found.pages found.label refusal c.in-Ok.ensures.some (sym c.refusal_by.ensures ∙ c.in-Some.is) c.requires.same in
    (refused.0, ToldHere-some g.D.Drive.told c.args.first.now c.args.drive found.pages refusal _ _ refused.1 c.in-Ok.ensures.told)

use Rattle.std.proofs.Common.{refl, inl, inr}
use Rattle.fg_outside.specs.Drives.{all_told}
use Rattle.fg_report.specs.Refusals.{refusal_line}
use Rattle.fg_top.specs.Calls.{output_between}
use Rattle.fg_top.specs.CheckJob.{CheckComesTo, checked_line}
use Rattle.fg_top.specs.Ends.{LeavesHeld}
use Rattle.fg_top.proofs.BuildDrives.{held_status}
use Rattle.fg_top.proofs.CheckEnds.{comes_checked}
use Rattle.fg_top.proofs.EndLemmas.{ends_done}
use Rattle.fg_top.proofs.checking.check_job.Goals as goal

pub returns-in-Err-write_checked-clause-ends : goal.returns-in-Err-write_checked-clause-ends
returns-in-Err-write_checked-clause-ends g c =
    let olds = c.args.drives.now.items in
    let news = c.check.new.drives.items in
    let told = all_told g.D.Drive.held olds in
    let opened = c.in-Ok.opened in
    ends_done g.D.Drive.faults olds news (CheckComesTo told) (λ end text. LeavesHeld g.D.Drive.held olds news end) (checked_line opened)
    (output_between g.K.Sink c.args.out.now c.write_checked.new.out) c.status.result c.in-Ok.ensures.kept
    (comes_checked told opened c.in-Ok.ensures.opening c.in-Ok.ensures.sound) c.check.ensures.held
    (inr (c.in-Err-write_checked.ensures.counted.failed, c.in-Err-write_checked.ensures.part, c.status.ensures))

pub returns-clause-ends : goal.returns-clause-ends
returns-clause-ends g c =
    let olds = c.args.drives.now.items in
    let news = c.check.new.drives.items in
    let told = all_told g.D.Drive.held olds in
    let opened = c.in-Ok.opened in
    ends_done g.D.Drive.faults olds news (CheckComesTo told) (λ end text. LeavesHeld g.D.Drive.held olds news end) (checked_line opened)
    (output_between g.K.Sink c.args.out.now c.write_checked.new.out) 0 c.in-Ok.ensures.kept
    (comes_checked told opened c.in-Ok.ensures.opening c.in-Ok.ensures.sound) c.check.ensures.held
    (inl (c.in_default.ensures.counted.kept, c.in_default.ensures.whole, c.in_default.ensures.handed, refl))

pub returns-in-Err-clause-told : goal.returns-in-Err-clause-told
returns-in-Err-clause-told g c =
    let refusal = c.in-Err.refusal in
    let output = output_between g.K.Sink c.args.out.now c.refuse.new.out in
    λ seven.
    let of_drives = held_status output refusal (refusal_line refusal) c.refuse.result c.refuse.ensures seven in
    record { refusal = refusal; of_drives = of_drives; by_told = c.in-Err.ensures.told_err of_drives }

use Rattle.fg_build.specs.Appends.{HoldAfter, label_appends}
use Rattle.fg_build.specs.Appending.{IsAppended, dealt, dealt_count}
use Rattle.fg_outside.specs.Drives.{EachSame}
use Rattle.fg_stripe.specs.Label.{label_bytes}
use Rattle.fg_build.proofs.appending.append_labels.Given as goal

abbrev pub invariant-loop-drive : goal.invariant-loop-drive
invariant-loop-drive g l = record {
  appended : IsAppended g.D.Drive.held g.D.Drive.room g.D.Drive.faults (dealt (λ k. k) (λ k. label_bytes (record l.label { drive = k })) l.drive) (dealt_count (λ k. k) l.drive) l.fn.drives l.drives;
  in_order : HoldAfter g.D.Drive.held (label_appends l.drive l.label) l.fn.drives l.drives;
  log : EachSame g.D.Drive.log l.fn.drives l.drives;
}

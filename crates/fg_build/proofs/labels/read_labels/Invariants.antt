use Rattle.std.proofs.Common.{◌≡◌, ◌≤◌, ◌<◌, drop, length, IfSome}
use Rattle.fg_build.specs.Calls.{AllRead, Keeps}
use Rattle.fg_build.specs.Labels.{labels_refusal, need_of}
use Rattle.fg_build.specs.OpeningReads.{label_reads}
use Rattle.fg_build.specs.PagesTold.{ToldNeeds}
use Rattle.fg_outside.specs.Drives.{HasEach, all_told}
use Rattle.fg_build.proofs.labels.read_labels.Given as goal

abbrev pub invariant-loop-drive : goal.invariant-loop-drive
invariant-loop-drive g l = record {
  keeps : Keeps g.D.Drive.held g.D.Drive.room g.D.Drive.faults l.fn.drives l.drives;
  reads : AllRead g.D.Drive.faults g.D.Drive.log (label_reads l.drive) l.fn.drives l.drives;
  told : HasEach (λ number one. number < l.drive → need_of number l.first ≤ g.D.Drive.told one) l.drives;
  answer : IfSome (all_told g.D.Drive.held l.fn.drives) (λ helds. labels_refusal (length helds) l.first 0 helds ≡ labels_refusal (length helds) l.first l.drive (drop l.drive helds));
  asked : ToldNeeds g.D.Drive.told l.first l.drive l.fn.drives l.drives;
  many : length l.drives ≡ length l.fn.drives;
}

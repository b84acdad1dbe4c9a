use Rattle.std.proofs.Common.{take, IfSome}
use Rattle.fg_build.specs.Building.{AreEmpty}
use Rattle.fg_build.specs.Calls.{Keeps}
use Rattle.fg_build.specs.PagesTold.{ToldNone}
use Rattle.fg_outside.specs.Drives.{EachSame, NoneRose, all_told}
use Rattle.fg_build.proofs.building.look_at_all.Given as goal

abbrev pub invariant-loop-drive : goal.invariant-loop-drive
invariant-loop-drive g l = record {
  keeps : Keeps g.D.Drive.held g.D.Drive.room g.D.Drive.faults l.fn.drives l.drives;
  counts : NoneRose g.D.Drive.faults l.fn.drives l.drives;
  log : EachSame g.D.Drive.log l.fn.drives l.drives;
  told : ToldNone g.D.Drive.told l.drive l.fn.drives l.drives;
  says : IfSome (all_told g.D.Drive.held l.fn.drives) (λ helds. AreEmpty (take l.drive helds));
}

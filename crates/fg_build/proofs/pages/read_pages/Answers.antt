use Rattle.std.proofs.Common.{refl, []}
use Rattle.fg_build.specs.OpeningReads.{page_reads}
use Rattle.fg_build.proofs.CallLaws.{Keeps-none, ReadUntil-before, memory_behind, none_called}
use Rattle.fg_outside.proofs.DriveLemmas.{EachDrive-same}
use Rattle.fg_build.proofs.pages.read_pages.Goals as goal

pub returns-in_default-clause-same_told : goal.returns-in_default-clause-same_told
returns-in_default-clause-same_told g c = EachDrive-same _ (λ drive. refl) c.args.drives.now

pub returns-in_default-clause-keeps : goal.returns-in_default-clause-keeps
returns-in_default-clause-keeps g c = Keeps-none g.D.Drive.held g.D.Drive.room g.D.Drive.faults c.args.drives.now

pub returns-in_default-clause-reads : goal.returns-in_default-clause-reads
returns-in_default-clause-reads g c =
    let drives = c.args.drives.now in
    ReadUntil-before g.D.Drive.faults g.D.Drive.log [] (page_reads c.args.layout.now.drives c.args.layout.now.unit c.args.first c.args.count) _ drives drives
    (memory_behind g.D.Drive.faults g.D.Drive.log [] drives drives (none_called g.D.Drive.faults g.D.Drive.log drives))

use Rattle.std.proofs.Common.{◌≡◌, ◌*◌, take, IfSome}
use Rattle.fg_build.specs.Calls.{AllRead, Keeps}
use Rattle.fg_build.specs.OpeningReads.{page_reads}
use Rattle.fg_build.specs.Pages.{pages_at}
use Rattle.fg_outside.specs.Drives.{EachSame, all_told}
use Rattle.fg_build.proofs.pages.fill_pages.Given as goal

abbrev pub invariant-loop-k : goal.invariant-loop-k
invariant-loop-k g l = record {
  keeps : Keeps g.D.Drive.held g.D.Drive.room g.D.Drive.faults l.fn.drives l.drives;
  reads : AllRead g.D.Drive.faults g.D.Drive.log (page_reads l.layout.drives l.layout.unit l.first l.k) l.fn.drives l.drives;
  told : EachSame g.D.Drive.told l.fn.drives l.drives;
  bytes : IfSome (all_told g.D.Drive.held l.fn.drives) (λ helds. take (l.k * 4096) l.into ≡ pages_at l.layout.unit helds l.first l.k);
}

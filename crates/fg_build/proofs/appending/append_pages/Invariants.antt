use Rattle.fg_build.specs.Appends.{HoldAfter, page_appends}
use Rattle.fg_build.specs.Appending.{IsAppended, dealt, dealt_count}
use Rattle.fg_outside.specs.Drives.{EachSame}
use Rattle.fg_stripe.specs.Held.{page_of}
use Rattle.fg_stripe.specs.Striping.{drive_of}
use Rattle.fg_build.proofs.appending.append_pages.Given as goal

abbrev pub invariant-loop-page : goal.invariant-loop-page
invariant-loop-page g l = record {
  appended : IsAppended g.D.Drive.held g.D.Drive.room g.D.Drive.faults (dealt (λ page. drive_of page l.label.drives l.label.unit) (page_of l.image) l.page) (dealt_count (λ page. drive_of page l.label.drives l.label.unit) l.page) l.fn.drives l.drives;
  in_order : HoldAfter g.D.Drive.held (page_appends l.label.drives l.label.unit l.image l.page) l.fn.drives l.drives;
  log : EachSame g.D.Drive.log l.fn.drives l.drives;
}

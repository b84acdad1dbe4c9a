-- The drives are counted one by one, up to the first that isn't empty.
use Rattle.std.proofs.Common.{◌≡◌, ℕ, length, refl, subst, arith}
use Rattle.fg_build.proofs.CallLaws.{IfSome-always, Keeps-more, Keeps-none}
use Rattle.fg_build.specs.PagesTold.{ToldNone}
use Rattle.fg_build.proofs.ToldLaws.{ToldNone-begin, ToldNone-ends, ToldNone-fails, ToldNone-more}
use Rattle.fg_build.proofs.EmptyLaws.{look_ends, look_more, look_stops}
use Rattle.fg_outside.specs.Drives.{all_told}
use Rattle.fg_outside.proofs.DriveLemmas.{EachDrive-same, EachSame-more, RoseFirst-after}
use Rattle.fg_build.proofs.building.look_at_all.Goals as goal

pub loop-drive-init : goal.loop-drive-init
loop-drive-init g c = record {
  keeps = Keeps-none g.D.Drive.held g.D.Drive.room g.D.Drive.faults c.args.drives.now;
  counts = EachDrive-same _ (λ drive. refl) c.args.drives.now;
  log = EachDrive-same _ (λ drive. refl) c.args.drives.now;
  says = IfSome-always (all_told g.D.Drive.held c.args.drives.now) _ (λ helds. tt);
  told = ToldNone-begin g.D.Drive.told c.args.drives.now;
}

pub returns-in_default-clause-says : goal.returns-in_default-clause-says
returns-in_default-clause-says g c = c.loop-drive.invariant.says

pub returns-in_default-clause-counts : goal.returns-in_default-clause-counts
returns-in_default-clause-counts g c =
    RoseFirst-after g.D.Drive.faults c.loop-drive.drive _ c.loop-drive.drives _ c.loop-drive.invariant.counts c.in_default.ensures.rose_first

pub returns-in_default-clause-log : goal.returns-in_default-clause-log
returns-in_default-clause-log g c = EachSame-more g.D.Drive.log _ c.loop-drive.drives _ c.loop-drive.invariant.log c.count_pages.ensures.log

pub returns-in_default-clause-keeps : goal.returns-in_default-clause-keeps
returns-in_default-clause-keeps g c =
    Keeps-more _ _ _ _ c.loop-drive.drives _ c.loop-drive.invariant.keeps
    (record { same_held = c.count_pages.ensures.held; same_room = c.count_pages.ensures.room; sure = c.count_pages.ensures.roomy })

pub returns-then-pages-ne0-clause-says : goal.returns-then-pages-ne0-clause-says
returns-then-pages-ne0-clause-says g c =
    let so_far = c.loop-drive.invariant in
    look_stops g.D.Drive.held c.args.drives.now c.loop-drive.drives c.loop-drive.drive c.in-Ok.pages so_far.keeps.same_held (omega (arith, c.loop-drive-test.true)) so_far.says
    c.in-Ok.ensures.count c.if-pages-ne0.true

pub returns-then-pages-ne0-clause-counts : goal.returns-then-pages-ne0-clause-counts
returns-then-pages-ne0-clause-counts g c =
    (omega (arith, c.loop-drive-test.true), EachSame-more g.D.Drive.faults _ c.loop-drive.drives _ c.loop-drive.invariant.counts c.in-Ok.ensures.none_rose)

pub returns-then-pages-ne0-clause-log : goal.returns-then-pages-ne0-clause-log
returns-then-pages-ne0-clause-log g c = EachSame-more g.D.Drive.log _ c.loop-drive.drives _ c.loop-drive.invariant.log c.count_pages.ensures.log

pub returns-then-pages-ne0-clause-keeps : goal.returns-then-pages-ne0-clause-keeps
returns-then-pages-ne0-clause-keeps g c =
    Keeps-more _ _ _ _ c.loop-drive.drives _ c.loop-drive.invariant.keeps
    (record { same_held = c.count_pages.ensures.held; same_room = c.count_pages.ensures.room; sure = c.count_pages.ensures.roomy })

pub loop-drive-preserved : goal.loop-drive-preserved
loop-drive-preserved g c =
    let so_far = c.loop-drive.invariant in
    record {
      keeps = Keeps-more _ _ _ _ c.loop-drive.drives _ so_far.keeps
          (record { same_held = c.count_pages.ensures.held; same_room = c.count_pages.ensures.room; sure = c.count_pages.ensures.roomy });
      counts = EachSame-more g.D.Drive.faults _ c.loop-drive.drives _ so_far.counts c.in-Ok.ensures.none_rose;
      log = EachSame-more g.D.Drive.log _ c.loop-drive.drives _ so_far.log c.count_pages.ensures.log;
      says =
          look_more g.D.Drive.held c.args.drives.now c.loop-drive.drives c.loop-drive.drive c.in-Ok.pages so_far.keeps.same_held (omega (arith, c.loop-drive-test.true)) so_far.says
          c.in-Ok.ensures.count c.if-pages-ne0.false;
      told = ToldNone-more g.D.Drive.told c.loop-drive.drive c.in-Ok.pages _ c.loop-drive.drives _ so_far.told c.in-Ok.ensures.told c.if-pages-ne0.false;
    }

pub returns-in_default-clause-told : goal.returns-in_default-clause-told
returns-in_default-clause-told g c =
    ToldNone-fails g.D.Drive.told c.loop-drive.drive _ c.loop-drive.drives _ c.loop-drive.invariant.told c.in_default.ensures.told_err

pub returns-then-pages-ne0-clause-told : goal.returns-then-pages-ne0-clause-told
returns-then-pages-ne0-clause-told g c = (
  omega (arith, c.loop-drive-test.true),
  ToldNone-ends g.D.Drive.told c.loop-drive.drive c.in-Ok.pages _ c.loop-drive.drives _ c.loop-drive.invariant.told c.in-Ok.ensures.told c.if-pages-ne0.true,
)

pub returns-clause-told : goal.returns-clause-told
returns-clause-told g c =
    let all : c.loop-drive.drive ≡ length c.args.drives.now = omega (arith, c.loop-drive-test.false) in
    let P : ℕ → Type 0 = λ count. ToldNone g.D.Drive.told count c.args.drives.now c.loop-drive.drives in
    subst P all c.loop-drive.invariant.told

pub returns-clause-says : goal.returns-clause-says
returns-clause-says g c = look_ends g.D.Drive.held c.args.drives.now c.loop-drive.drive (omega (arith, c.loop-drive-test.false)) c.loop-drive.invariant.says

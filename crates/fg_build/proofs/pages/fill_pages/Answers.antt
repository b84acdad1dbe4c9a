use Rattle.std.proofs.Common.{◌*◌, ◌+◌, arith, refl}
use Rattle.std.proofs.Math.Nat.{mul-le-mul_right}
use Rattle.fg_build.specs.OpeningReads.{page_read}
use Rattle.fg_build.proofs.CallLaws.{IfSome-always, Keeps-more, Keeps-none, all_told-before, none_called, one_more, stopped}
use Rattle.fg_build.proofs.PageLaws.{HoldWhole-same, filled_more}
use Rattle.fg_outside.specs.Drives.{all_told}
use Rattle.fg_outside.proofs.DriveLemmas.{EachDrive-same, EachSame-more}
use Rattle.fg_build.proofs.pages.fill_pages.Goals as goal

pub loop-k-init : goal.loop-k-init
loop-k-init g c = record {
  keeps = Keeps-none g.D.Drive.held g.D.Drive.room g.D.Drive.faults c.args.drives.now;
  reads = none_called g.D.Drive.faults g.D.Drive.log c.args.drives.now;
  told = EachDrive-same _ (λ drive. refl) c.args.drives.now;
  bytes = IfSome-always (all_told g.D.Drive.held c.args.drives.now) _ (λ helds. refl);
}

pub read_image_page-requires-clause-told : goal.read_image_page-requires-clause-told
read_image_page-requires-clause-told g c =
    HoldWhole-same g.D.Drive.told c.args.layout.now c.args.drives.now c.loop-k.drives c.loop-k.invariant.told c.requires.told

pub returns-in-Err-clause-same_told : goal.returns-in-Err-clause-same_told
returns-in-Err-clause-same_told g c =
    EachSame-more g.D.Drive.told _ c.loop-k.drives _ c.loop-k.invariant.told c.read_image_page.ensures.same_told

pub returns-in-Err-clause-keeps : goal.returns-in-Err-clause-keeps
returns-in-Err-clause-keeps g c =
    Keeps-more _ _ _ _ c.loop-k.drives _ c.loop-k.invariant.keeps c.read_image_page.ensures.keeps

pub returns-in-Err-clause-reads : goal.returns-in-Err-clause-reads
returns-in-Err-clause-reads g c =
    stopped g.D.Drive.faults g.D.Drive.log (page_read c.args.layout.now.drives c.args.layout.now.unit) c.args.first c.args.count c.loop-k.k (c.args.first + c.loop-k.k)
    _ _ c.loop-k.drives _ refl (omega (arith, c.loop-k-test.true)) c.loop-k.invariant.reads c.in-Err.ensures.reads

pub loop-k-preserved : goal.loop-k-preserved
loop-k-preserved g c =
    let so_far = c.loop-k.invariant in
    record {
      keeps = Keeps-more _ _ _ _ c.loop-k.drives _ so_far.keeps c.read_image_page.ensures.keeps;
      reads =
          one_more g.D.Drive.faults g.D.Drive.log (page_read c.args.layout.now.drives c.args.layout.now.unit) c.args.first c.loop-k.k (c.args.first + c.loop-k.k)
          _ c.loop-k.drives _ refl so_far.reads c.in_default.ensures.reads;
      told = EachSame-more g.D.Drive.told _ c.loop-k.drives _ so_far.told c.read_image_page.ensures.same_told;
      bytes =
          filled_more (all_told g.D.Drive.held c.args.drives.now) c.args.layout.now.unit c.args.first c.loop-k.k (c.args.first + c.loop-k.k) (c.loop-k.k * 4096) _
          c.loop-k.into c.read_image_page.new.into refl refl (omega (arith, c.read_image_page.auto.into)) (omega (arith, c.loop-k.auto.into, c.requires.whole, mul-le-mul_right 4096 c.loop-k.auto.k-end))
          so_far.bytes (all_told-before g.D.Drive.held _ c.loop-k.drives _ so_far.keeps.same_held c.in_default.ensures.bytes);
    }

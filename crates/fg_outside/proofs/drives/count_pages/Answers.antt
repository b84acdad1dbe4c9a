-- What the call of one drive does to all of them.
use Rattle.std.proofs.Common.{◌≡◌, [], IfSome, IsSome, refl, slice_index_or, slice_set}
use Rattle.std.proofs.lemmas.Result.{IfOk-weaker, on_ok_weaker, on_err_weaker}
use Rattle.fg_outside.specs.Drives.{ToldBy, all_told}
use Rattle.fg_outside.specs.Pages.{page_count}
use Rattle.fg_outside.proofs.DriveLemmas.{EachDrive-set, EachSame-set, RoseFirst-set, ToldBy-set, all_told-holds, kept_where_sure}
use Rattle.fg_outside.proofs.drives.count_pages.Goals as goal

pub returns-clause-count : goal.returns-clause-count
returns-clause-count g c = IfOk-weaker c.pages.result
    (λ n. IfSome (g.D.Drive.held (slice_index_or c.args.drives.now c.args.drive c.index-drives-drive.result)) (λ bytes. n ≡ page_count bytes))
    (λ n. IfSome (all_told g.D.Drive.held c.args.drives.now) (λ helds. n ≡ page_count (slice_index_or helds c.args.drive [])))
    (λ n. all_told-holds g.D.Drive.held c.args.drives.now c.args.drive c.index-drives-drive.result [] (λ bytes. n ≡ page_count bytes) c.requires)
    c.pages.ensures.count

pub returns-clause-told : goal.returns-clause-told
returns-clause-told g c = IfOk-weaker c.pages.result
    (λ n. g.D.Drive.told c.pages.new.self ≡ n)
    (λ n. ToldBy g.D.Drive.told c.args.drive n c.args.drives.now (slice_set c.args.drives.now c.args.drive c.pages.new.self))
    (λ n. ToldBy-set g.D.Drive.told c.args.drives.now c.args.drive n c.index-drives-drive.result c.pages.new.self c.requires)
    c.pages.ensures.told

pub returns-clause-told_err : goal.returns-clause-told_err
returns-clause-told_err g c = on_err_weaker c.pages.result
    (EachSame-set g.D.Drive.told c.args.drives.now c.args.drive c.index-drives-drive.result c.pages.new.self c.requires)
    c.pages.ensures.told_err

pub returns-clause-held : goal.returns-clause-held
returns-clause-held g c =
    EachSame-set g.D.Drive.held c.args.drives.now c.args.drive c.index-drives-drive.result c.pages.new.self c.requires c.pages.ensures.held

pub returns-clause-log : goal.returns-clause-log
returns-clause-log g c =
    EachSame-set g.D.Drive.log c.args.drives.now c.args.drive c.index-drives-drive.result c.pages.new.self c.requires c.pages.ensures.log

pub returns-clause-room : goal.returns-clause-room
returns-clause-room g c =
    EachSame-set g.D.Drive.room c.args.drives.now c.args.drive c.index-drives-drive.result c.pages.new.self c.requires c.pages.ensures.room

pub returns-clause-none_rose : goal.returns-clause-none_rose
returns-clause-none_rose g c = on_ok_weaker c.pages.result
    (EachSame-set g.D.Drive.faults c.args.drives.now c.args.drive c.index-drives-drive.result c.pages.new.self c.requires)
    c.pages.ensures.counted.kept

pub returns-clause-rose_first : goal.returns-clause-rose_first
returns-clause-rose_first g c = on_err_weaker c.pages.result
    (RoseFirst-set g.D.Drive.faults c.args.drives.now c.args.drive c.index-drives-drive.result c.pages.new.self c.requires)
    c.pages.ensures.counted.failed

pub returns-clause-roomy : goal.returns-clause-roomy
returns-clause-roomy g c =
    EachDrive-set (λ old new. IsSome (g.D.Drive.room old) → g.D.Drive.faults new ≡ g.D.Drive.faults old) (λ drive told. refl)
    c.args.drives.now c.args.drive c.index-drives-drive.result c.pages.new.self c.requires
    (kept_where_sure c.pages.result c.pages.ensures.sure c.pages.ensures.counted.kept)

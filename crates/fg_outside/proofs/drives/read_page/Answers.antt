-- What the call of one drive does to all of them.
use Rattle.std.proofs.Common.{◌≡◌, [], IsSome, refl}
use Rattle.std.proofs.lemmas.Result.{on_ok_weaker, on_err_weaker}
use Rattle.fg_outside.specs.Log.{read_of}
use Rattle.fg_outside.specs.Pages.{pages_of}
use Rattle.fg_outside.proofs.DriveLemmas.{EachDrive-set, EachSame-set, LogsGrew-one, LogsGrewByFirst-one, RoseFirst-set, all_told-holds, kept_where_sure}
use Rattle.fg_outside.proofs.drives.read_page.Goals as goal

pub returns-clause-bytes : goal.returns-clause-bytes
returns-clause-bytes g c = on_ok_weaker c.read_run.result
    (all_told-holds g.D.Drive.held c.args.drives.now c.args.drive c.index-drives-drive.result [] (λ bytes. c.read_run.new.into ≡ pages_of c.args.page 1 bytes)
    c.requires.drive)
    c.read_run.ensures.bytes

pub returns-clause-log : goal.returns-clause-log
returns-clause-log g c = on_ok_weaker c.read_run.result
    (LogsGrew-one g.D.Drive.log c.args.drives.now c.args.drive (read_of c.args.page 1) c.index-drives-drive.result c.read_run.new.self
    c.requires.drive)
    c.read_run.ensures.log

pub returns-clause-log_err : goal.returns-clause-log_err
returns-clause-log_err g c = on_err_weaker c.read_run.result
    (LogsGrewByFirst-one g.D.Drive.log c.args.drives.now c.args.drive (read_of c.args.page 1) c.index-drives-drive.result c.read_run.new.self
    c.requires.drive)
    c.read_run.ensures.log_err

pub returns-clause-held : goal.returns-clause-held
returns-clause-held g c =
    EachSame-set g.D.Drive.held c.args.drives.now c.args.drive c.index-drives-drive.result c.read_run.new.self
    c.requires.drive c.read_run.ensures.held

pub returns-clause-same_told : goal.returns-clause-same_told
returns-clause-same_told g c =
    EachSame-set g.D.Drive.told c.args.drives.now c.args.drive c.index-drives-drive.result c.read_run.new.self
    c.requires.drive c.read_run.ensures.same_told

pub returns-clause-room : goal.returns-clause-room
returns-clause-room g c =
    EachSame-set g.D.Drive.room c.args.drives.now c.args.drive c.index-drives-drive.result c.read_run.new.self
    c.requires.drive c.read_run.ensures.room

pub returns-clause-none_rose : goal.returns-clause-none_rose
returns-clause-none_rose g c = on_ok_weaker c.read_run.result
    (EachSame-set g.D.Drive.faults c.args.drives.now c.args.drive c.index-drives-drive.result c.read_run.new.self
    c.requires.drive)
    c.read_run.ensures.counted.kept

pub returns-clause-rose_first : goal.returns-clause-rose_first
returns-clause-rose_first g c = on_err_weaker c.read_run.result
    (RoseFirst-set g.D.Drive.faults c.args.drives.now c.args.drive c.index-drives-drive.result c.read_run.new.self
    c.requires.drive)
    c.read_run.ensures.counted.failed

pub returns-clause-roomy : goal.returns-clause-roomy
returns-clause-roomy g c =
    EachDrive-set (λ old new. IsSome (g.D.Drive.room old) → g.D.Drive.faults new ≡ g.D.Drive.faults old) (λ drive told. refl)
    c.args.drives.now c.args.drive c.index-drives-drive.result c.read_run.new.self c.requires.drive
    (kept_where_sure c.read_run.result c.read_run.ensures.sure c.read_run.ensures.counted.kept)

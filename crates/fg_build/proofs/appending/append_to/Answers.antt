use Rattle.std.proofs.Common.{◌≡◌, ◌∙◌, ◌/◌, ℕ, ap, subst, sym, slice_index_or, true≢false}
use Rattle.fg_build.proofs.AppendLaws.{appended_one, begun_one, kept_one}
use Rattle.fg_outside.specs.Pages.{HasRoom, lessened, page_count}
use Rattle.fg_outside.proofs.DriveLemmas.{EachSame-set}
use Rattle.fg_build.proofs.OrderLaws.{HoldAfter-one, StopsAmong-one}
use Rattle.fg_build.proofs.appending.append_to.Goals as goal

pub returns-in_default-clause-appends : goal.returns-in_default-clause-appends
returns-in_default-clause-appends g c =
    begun_one g.D.Drive.held g.D.Drive.room g.D.Drive.faults c.args.drives.now c.args.drive c.args.page.now c.index-drives-drive.result c.append.new.self c.requires.drive
    c.in_default.ensures.held_err c.in_default.ensures.counted.failed

pub returns-in_default-clause-log : goal.returns-in_default-clause-log
returns-in_default-clause-log g c = EachSame-set g.D.Drive.log c.args.drives.now c.args.drive c.index-drives-drive.result c.append.new.self c.requires.drive c.append.ensures.log

pub returns-in_default-clause-sure : goal.returns-in_default-clause-sure
returns-in_default-clause-sure g c =
    let one : 1 ≡ page_count c.args.page.now = sym (ap (λ (n : ℕ). n / 4096) c.requires.whole) in
    let P : ℕ → Type 0 = λ count. HasRoom (g.D.Drive.room (slice_index_or c.args.drives.now c.args.drive c.index-drives-drive.result)) count in
    kept_one g.D.Drive.held g.D.Drive.room g.D.Drive.faults c.args.drives.now c.args.drive c.index-drives-drive.result c.append.new.self c.requires.drive
    (λ roomy. absurd (true≢false (sym (c.in_default.ensures.sure (subst P one roomy)))))

pub returns-clause-appends : goal.returns-clause-appends
returns-clause-appends g c =
    appended_one g.D.Drive.held g.D.Drive.room g.D.Drive.faults c.args.drives.now c.args.drive c.args.page.now c.index-drives-drive.result c.append.new.self c.requires.drive
    c.in-Ok.ensures.held (c.in-Ok.ensures.room ∙ ap (λ (n : ℕ). lessened (g.D.Drive.room (slice_index_or c.args.drives.now c.args.drive c.index-drives-drive.result)) (n / 4096)) c.requires.whole) c.in-Ok.ensures.counted.kept

pub returns-clause-sure : goal.returns-clause-sure
returns-clause-sure g c =
    kept_one g.D.Drive.held g.D.Drive.room g.D.Drive.faults c.args.drives.now c.args.drive c.index-drives-drive.result c.append.new.self c.requires.drive
    (λ roomy. c.in-Ok.ensures.counted.kept)

pub returns-clause-log : goal.returns-clause-log
returns-clause-log g c = EachSame-set g.D.Drive.log c.args.drives.now c.args.drive c.index-drives-drive.result c.append.new.self c.requires.drive c.append.ensures.log

pub returns-in_default-clause-in_order : goal.returns-in_default-clause-in_order
returns-in_default-clause-in_order g c =
    StopsAmong-one g.D.Drive.held c.args.drives.now c.args.drive c.args.page.now c.index-drives-drive.result c.append.new.self c.requires.drive c.in_default.ensures.held_err

pub returns-clause-in_order : goal.returns-clause-in_order
returns-clause-in_order g c =
    HoldAfter-one g.D.Drive.held c.args.drives.now c.args.drive c.args.page.now c.index-drives-drive.result c.append.new.self c.requires.drive c.in-Ok.ensures.held

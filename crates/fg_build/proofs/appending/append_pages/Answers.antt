-- Each page is taken by the drive of its place.
use Rattle.std.proofs.Common.{◌≡◌, ◌+◌, ◌*◌, ◌-◌, ◌≤◌, ℕ, Err, [], ◌∷◌, take, drop, refl, subst, arith}
use Rattle.fg_build.specs.Appending.{Appends, IsAppended, RoomyKeptFor, dealt, dealt_count, on_drive, one_on}
use Rattle.fg_build.proofs.AppendLaws.{IsAppended-none, deal_kept, deal_more, deal_stops, kept_all}
use Rattle.fg_outside.proofs.DriveLemmas.{EachDrive-same, EachSame-more}
use Rattle.fg_stripe.specs.declared.layout.Place.{Place}
use Rattle.fg_stripe.specs.Held.{page_of}
use Rattle.fg_stripe.specs.Striping.{drive_of}
use Rattle.fg_build.specs.Appends.{AppendsInOrder, HoldAfter, PageAppend, append_of, page_appends}
use Rattle.fg_build.proofs.OrderLaws.{HoldAfter-none, order_more, order_stops}
use Rattle.fg_build.proofs.appending.append_pages.Goals as goal

pub loop-page-init : goal.loop-page-init
loop-page-init g c = record {
  appended = IsAppended-none g.D.Drive.held g.D.Drive.room g.D.Drive.faults _ _ c.args.drives.now (λ drive. refl) (λ drive. refl);
  log = EachDrive-same _ (λ one. refl) c.args.drives.now;
  in_order = HoldAfter-none g.D.Drive.held c.args.drives.now;
}

pub returns-in-Err-clause-log : goal.returns-in-Err-clause-log
returns-in-Err-clause-log g c = EachSame-more g.D.Drive.log _ c.loop-page.drives _ c.loop-page.invariant.log c.append_to.ensures.log

pub returns-in-Err-clause-appends : goal.returns-in-Err-clause-appends
returns-in-Err-clause-appends g c =
    let held = g.D.Drive.held in
    let room = g.D.Drive.room in
    let faults = g.D.Drive.faults in
    let label = c.args.label.now in
    let image = c.args.image.now in
    let taker : ℕ → ℕ = λ page. drive_of page label.drives label.unit in
    let olds = c.args.drives.now in
    let page = c.loop-page.page in
    let news = c.append_to.new.drives in
    let within : page + 1 ≤ label.pages = omega (arith, c.loop-page-test.true) in
    let size : page * 4096 + 4096 - page * 4096 ≡ 4096 = omega arith in
    let S : ℕ → Type 0 = λ size. Appends held room faults (on_drive c.place-drive.result.drive (take size (drop (page * 4096) image))) (one_on c.place-drive.result.drive) c.loop-page.drives news (Err c.in-Err.refusal) in
    let P : Place → Type 0 = λ place. Appends held room faults (on_drive place.drive (page_of image page)) (one_on place.drive) c.loop-page.drives news (Err c.in-Err.refusal) in
    deal_stops held room faults taker (page_of image) olds c.loop-page.drives news page label.pages within c.loop-page.invariant.appended c.in-Err.refusal
    (subst P c.place-drive.ensures.value (subst S size c.in-Err.ensures.appends))

pub returns-in-Err-clause-sure : goal.returns-in-Err-clause-sure
returns-in-Err-clause-sure g c =
    let held = g.D.Drive.held in
    let room = g.D.Drive.room in
    let faults = g.D.Drive.faults in
    let label = c.args.label.now in
    let image = c.args.image.now in
    let taker : ℕ → ℕ = λ page. drive_of page label.drives label.unit in
    let olds = c.args.drives.now in
    let page = c.loop-page.page in
    let news = c.append_to.new.drives in
    let within : page + 1 ≤ label.pages = omega (arith, c.loop-page-test.true) in
    let P : Place → Type 0 = λ place. RoomyKeptFor room faults (one_on place.drive) c.loop-page.drives news in
    deal_kept held room faults taker (page_of image) olds c.loop-page.drives news page label.pages within c.loop-page.invariant.appended
    (subst P c.place-drive.ensures.value c.append_to.ensures.sure)

pub loop-page-preserved : goal.loop-page-preserved
loop-page-preserved g c =
    let held = g.D.Drive.held in
    let room = g.D.Drive.room in
    let faults = g.D.Drive.faults in
    let label = c.args.label.now in
    let image = c.args.image.now in
    let taker : ℕ → ℕ = λ page. drive_of page label.drives label.unit in
    let olds = c.args.drives.now in
    let page = c.loop-page.page in
    let news = c.append_to.new.drives in
    let within : page + 1 ≤ label.pages = omega (arith, c.loop-page-test.true) in
    let size : page * 4096 + 4096 - page * 4096 ≡ 4096 = omega arith in
    let S : ℕ → Type 0 = λ size. IsAppended held room faults (on_drive c.place-drive.result.drive (take size (drop (page * 4096) image))) (one_on c.place-drive.result.drive) c.loop-page.drives news in
    let P : Place → Type 0 = λ place. IsAppended held room faults (on_drive place.drive (page_of image page)) (one_on place.drive) c.loop-page.drives news in
    let append : ℕ → PageAppend = λ page. append_of (taker page) (page_of image page) in
    let T : ℕ → Type 0 = λ size. HoldAfter held (append_of c.place-drive.result.drive (take size (drop (page * 4096) image)) ∷ []) c.loop-page.drives news in
    let Q : Place → Type 0 = λ place. HoldAfter held (append_of place.drive (page_of image page) ∷ []) c.loop-page.drives news in
    record {
      appended =
          deal_more held room faults taker (page_of image) olds c.loop-page.drives news page label.pages within c.loop-page.invariant.appended
          (subst P c.place-drive.ensures.value (subst S size c.in_default.ensures.appends));
      log = EachSame-more g.D.Drive.log _ c.loop-page.drives _ c.loop-page.invariant.log c.append_to.ensures.log;
      in_order =
          order_more held append page olds c.loop-page.drives news c.loop-page.invariant.in_order (subst Q c.place-drive.ensures.value (subst T size c.in_default.ensures.in_order));
    }

pub returns-clause-appends : goal.returns-clause-appends
returns-clause-appends g c =
    let label = c.args.label.now in
    let all : c.loop-page.page ≡ label.pages = omega (arith, c.loop-page-test.false) in
    let taker : ℕ → ℕ = λ page. drive_of page label.drives label.unit in
    let P : ℕ → Type 0 = λ count. IsAppended g.D.Drive.held g.D.Drive.room g.D.Drive.faults (dealt taker (page_of c.args.image.now) count) (dealt_count taker count) c.args.drives.now c.loop-page.drives in
    subst P all c.loop-page.invariant.appended

pub returns-clause-sure : goal.returns-clause-sure
returns-clause-sure g c =
    let label = c.args.label.now in
    let taker : ℕ → ℕ = λ page. drive_of page label.drives label.unit in
    kept_all g.D.Drive.held g.D.Drive.room g.D.Drive.faults (dealt_count taker label.pages) c.args.drives.now c.loop-page.drives c.loop-page.invariant.appended.none

pub returns-in-Err-clause-in_order : goal.returns-in-Err-clause-in_order
returns-in-Err-clause-in_order g c =
    let held = g.D.Drive.held in
    let label = c.args.label.now in
    let image = c.args.image.now in
    let append : ℕ → PageAppend = λ page. append_of (drive_of page label.drives label.unit) (page_of image page) in
    let olds = c.args.drives.now in
    let page = c.loop-page.page in
    let news = c.append_to.new.drives in
    let within : page + 1 ≤ label.pages = omega (arith, c.loop-page-test.true) in
    let size : page * 4096 + 4096 - page * 4096 ≡ 4096 = omega arith in
    let S : ℕ → Type 0 = λ size. AppendsInOrder held (append_of c.place-drive.result.drive (take size (drop (page * 4096) image)) ∷ []) c.loop-page.drives news (Err c.in-Err.refusal) in
    let P : Place → Type 0 = λ place. AppendsInOrder held (append_of place.drive (page_of image page) ∷ []) c.loop-page.drives news (Err c.in-Err.refusal) in
    order_stops held append label.pages page c.in-Err.refusal olds c.loop-page.drives news within c.loop-page.invariant.in_order
    (subst P c.place-drive.ensures.value (subst S size c.in-Err.ensures.in_order))

pub returns-clause-in_order : goal.returns-clause-in_order
returns-clause-in_order g c =
    let label = c.args.label.now in
    let all : c.loop-page.page ≡ label.pages = omega (arith, c.loop-page-test.false) in
    let P : ℕ → Type 0 = λ count. HoldAfter g.D.Drive.held (page_appends label.drives label.unit c.args.image.now count) c.args.drives.now c.loop-page.drives in
    subst P all c.loop-page.invariant.in_order

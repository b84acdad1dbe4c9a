-- Each drive takes its own label.
use Rattle.std.proofs.Common.{◌≡◌, ◌+◌, ◌≤◌, ℕ, Err, List, [], ◌∷◌, length, refl, subst, arith}
use Rattle.fg_build.specs.Appending.{Appends, IsAppended, on_drive, one_on}
use Rattle.fg_build.proofs.AppendLaws.{Appends-own, IsAppended-none, deal_kept, deal_more, deal_stops, kept_all, kept_own}
use Rattle.fg_outside.proofs.DriveLemmas.{EachDrive-same, EachSame-more}
use Rattle.fg_stripe.specs.Label.{label_bytes}
use Rattle.std.specs.Prelude.{Ok}
use Rattle.fg_build.specs.Appends.{AppendsInOrder, HoldAfter, PageAppend, append_of, label_appends}
use Rattle.fg_build.proofs.OrderLaws.{HoldAfter-none, order_more, order_stops}
use Rattle.fg_build.proofs.appending.append_labels.Goals as goal

pub loop-drive-init : goal.loop-drive-init
loop-drive-init g c = record {
  appended = IsAppended-none g.D.Drive.held g.D.Drive.room g.D.Drive.faults _ _ c.args.drives.now (λ drive. refl) (λ drive. refl);
  log = EachDrive-same _ (λ one. refl) c.args.drives.now;
  in_order = HoldAfter-none g.D.Drive.held c.args.drives.now;
}

pub returns-in-Err-clause-appends : goal.returns-in-Err-clause-appends
returns-in-Err-clause-appends g c =
    let held = g.D.Drive.held in
    let room = g.D.Drive.room in
    let faults = g.D.Drive.faults in
    let label = c.args.label.now in
    let bytes : ℕ → List ℕ = λ k. label_bytes (record label { drive = k }) in
    let olds = c.args.drives.now in
    let drive = c.loop-drive.drive in
    let within : drive + 1 ≤ length olds = omega (arith, c.loop-drive-test.true) in
    let P : List ℕ → Type 0 = λ page. Appends held room faults (on_drive drive page) (one_on drive) c.loop-drive.drives c.append_to.new.drives (Err c.in-Err.refusal) in
    Appends-own held room faults bytes (length olds) olds c.append_to.new.drives (Err c.in-Err.refusal) (omega arith)
    (deal_stops held room faults (λ k. k) bytes olds c.loop-drive.drives c.append_to.new.drives drive (length olds) within c.loop-drive.invariant.appended c.in-Err.refusal
    (subst P c.write.ensures.bytes c.in-Err.ensures.appends))

pub returns-in-Err-clause-log : goal.returns-in-Err-clause-log
returns-in-Err-clause-log g c = EachSame-more g.D.Drive.log _ c.loop-drive.drives _ c.loop-drive.invariant.log c.append_to.ensures.log

pub returns-in-Err-clause-sure : goal.returns-in-Err-clause-sure
returns-in-Err-clause-sure g c =
    let held = g.D.Drive.held in
    let room = g.D.Drive.room in
    let faults = g.D.Drive.faults in
    let label = c.args.label.now in
    let bytes : ℕ → List ℕ = λ k. label_bytes (record label { drive = k }) in
    let olds = c.args.drives.now in
    let within : c.loop-drive.drive + 1 ≤ length olds = omega (arith, c.loop-drive-test.true) in
    kept_own held room faults (length olds) olds c.append_to.new.drives
    (deal_kept held room faults (λ k. k) bytes olds c.loop-drive.drives c.append_to.new.drives c.loop-drive.drive (length olds) within c.loop-drive.invariant.appended
    c.append_to.ensures.sure)

pub loop-drive-preserved : goal.loop-drive-preserved
loop-drive-preserved g c =
    let held = g.D.Drive.held in
    let room = g.D.Drive.room in
    let faults = g.D.Drive.faults in
    let label = c.args.label.now in
    let bytes : ℕ → List ℕ = λ k. label_bytes (record label { drive = k }) in
    let olds = c.args.drives.now in
    let drive = c.loop-drive.drive in
    let within : drive + 1 ≤ length olds = omega (arith, c.loop-drive-test.true) in
    let P : List ℕ → Type 0 = λ page. IsAppended held room faults (on_drive drive page) (one_on drive) c.loop-drive.drives c.append_to.new.drives in
    let append : ℕ → PageAppend = λ k. append_of k (bytes k) in
    let Q : List ℕ → Type 0 = λ page. HoldAfter held (append_of drive page ∷ []) c.loop-drive.drives c.append_to.new.drives in
    record {
      appended =
          deal_more held room faults (λ k. k) bytes olds c.loop-drive.drives c.append_to.new.drives drive (length olds) within c.loop-drive.invariant.appended
          (subst P c.write.ensures.bytes c.in_default.ensures.appends);
      log = EachSame-more g.D.Drive.log _ c.loop-drive.drives _ c.loop-drive.invariant.log c.append_to.ensures.log;
      in_order =
          order_more held append drive olds c.loop-drive.drives c.append_to.new.drives c.loop-drive.invariant.in_order (subst Q c.write.ensures.bytes c.in_default.ensures.in_order);
    }

pub returns-clause-appends : goal.returns-clause-appends
returns-clause-appends g c =
    let label = c.args.label.now in
    Appends-own g.D.Drive.held g.D.Drive.room g.D.Drive.faults (λ k. label_bytes (record label { drive = k })) c.loop-drive.drive c.args.drives.now c.loop-drive.drives (Ok tt)
    (omega (arith, c.loop-drive-test.false)) c.loop-drive.invariant.appended

pub returns-clause-sure : goal.returns-clause-sure
returns-clause-sure g c = kept_all g.D.Drive.held g.D.Drive.room g.D.Drive.faults (λ drive. 1) c.args.drives.now c.loop-drive.drives c.loop-drive.invariant.appended.none

pub returns-in-Err-clause-in_order : goal.returns-in-Err-clause-in_order
returns-in-Err-clause-in_order g c =
    let held = g.D.Drive.held in
    let label = c.args.label.now in
    let append : ℕ → PageAppend = λ k. append_of k (label_bytes (record label { drive = k })) in
    let olds = c.args.drives.now in
    let drive = c.loop-drive.drive in
    let within : drive + 1 ≤ length olds = omega (arith, c.loop-drive-test.true) in
    let P : List ℕ → Type 0 = λ page. AppendsInOrder held (append_of drive page ∷ []) c.loop-drive.drives c.append_to.new.drives (Err c.in-Err.refusal) in
    order_stops held append (length olds) drive c.in-Err.refusal olds c.loop-drive.drives c.append_to.new.drives within c.loop-drive.invariant.in_order
    (subst P c.write.ensures.bytes c.in-Err.ensures.in_order)

pub returns-clause-in_order : goal.returns-clause-in_order
returns-clause-in_order g c =
    let all : c.loop-drive.drive ≡ length c.args.drives.now = omega (arith, c.loop-drive-test.false) in
    let P : ℕ → Type 0 = λ count. HoldAfter g.D.Drive.held (label_appends count c.args.label.now) c.args.drives.now c.loop-drive.drives in
    subst P all c.loop-drive.invariant.in_order

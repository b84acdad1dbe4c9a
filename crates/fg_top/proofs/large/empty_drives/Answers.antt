use Rattle.std.proofs.lemmas.List.{length-append}
use Rattle.std.proofs.Common.{◌+◌, ◌≡◌, ◌∙◌, ◌∷◌, [], ◌++◌, List, Some, ap, sym, subst, arith, length}
use Rattle.fg_outside.specs.contracts.room_drive.RoomDriveDrive.TheImpl.{held-value, room-value, faults-value}
use Rattle.fg_outside.specs.declared.room_drive.RoomDrive.{RoomDrive}
use Rattle.fg_outside.specs.Drives.{HasEach}
use Rattle.fg_top.specs.MadeDrives.{IsEmptyFor}
use Rattle.fg_top.proofs.MadeEnds.{HasEach-next}
use Rattle.fg_top.proofs.large.empty_drives.Goals as goal

pub loop-drive-init : goal.loop-drive-init
loop-drive-init c =
    let P : List RoomDrive → Type 0 = λ drives. HasEach (IsEmptyFor held-value.it room-value.it faults-value.it c.args.layout.now) drives in
    record { many = ap length c.in_ok-drives.ensures.items; each = subst P (sym c.in_ok-drives.ensures.items) tt }

pub loop-drive-preserved : goal.loop-drive-preserved
loop-drive-preserved c =
    let P : List RoomDrive → Type 0 = λ drives. HasEach (IsEmptyFor held-value.it room-value.it faults-value.it c.args.layout.now) drives in
    let pushed : c.push.new.self.items ≡ c.loop-drive.drives.items ++ (c.in_ok-new.field-0 ∷ []) = c.in_ok-push.ensures.items in
    record {
      many = ap length pushed ∙ length-append c.loop-drive.drives.items (c.in_ok-new.field-0 ∷ []) ∙ ap (λ count. count + 1) c.loop-drive.invariant.many;
      each = subst P (sym pushed)
          (HasEach-next (IsEmptyFor held-value.it room-value.it faults-value.it c.args.layout.now) c.loop-drive.drives.items c.in_ok-new.field-0 c.loop-drive.drive
          (sym c.loop-drive.invariant.many) c.loop-drive.invariant.each
          (record { nothing = c.in_ok-new.ensures.held; roomy = c.in_ok-new.ensures.room ∙ ap Some c.need_on.ensures; unfailed = c.in_ok-new.ensures.faults }));
    }

pub returns : goal.returns
returns c = record { many = c.loop-drive.invariant.many ∙ omega (arith, c.loop-drive.auto.drive-end, c.loop-drive-test.false); each = c.loop-drive.invariant.each }

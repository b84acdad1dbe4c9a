use Rattle.std.proofs.Common.{◌≡◌, length}
use Rattle.fg_outside.specs.contracts.room_drive.RoomDriveDrive.TheImpl.{held-value, room-value, faults-value}
use Rattle.fg_outside.specs.Drives.{HasEach}
use Rattle.fg_top.specs.MadeDrives.{IsEmptyFor}
use Rattle.fg_top.proofs.large.empty_drives.Given as goal

abbrev pub invariant-loop-drive : goal.invariant-loop-drive
invariant-loop-drive l = record {
  many : length l.drives.items ≡ l.drive;
  each : HasEach (IsEmptyFor held-value.it room-value.it faults-value.it l.layout) l.drives.items;
}

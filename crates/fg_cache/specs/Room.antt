-- What `close` needs: room for the drives, and a share with no part.
use Rattle.std.specs.Prelude.{◌≡◌, ◌≤◌, [], vec_capacity}
use Rattle.fg_cache.specs.Names.{LockOf}
use Rattle.fg_cache.specs.Share.{idle}
use Rattle.fg_cache.specs.declared.room.Room.{Room}

-- room for as many drives as the number says
pub record IsRoom {D : Type 0} (name : LockOf) (room : Room D) : Type 0 where
  pub none_yet : room.drives.items ≡ []
  pub enough : name.number ≤ vec_capacity room.drives
  pub share : room.share ≡ idle name.site.books 0

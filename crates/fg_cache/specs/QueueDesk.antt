-- What stands behind the lock of a drive's queue.
use Rattle.std.specs.Prelude.{◌≡◌, length, All, pos, ◌+ℤ◌}
use Rattle.fg_cache.specs.Load.{IsLoad}
use Rattle.fg_cache.specs.Names.{LockOf}
use Rattle.fg_cache.specs.declared.queue_desk.QueueDesk.{QueueDesk}

-- Only loads of this drive wait. As many do as were pushed and not taken, and each stands for an entry.
pub record IsQueueDesk (name : LockOf) (desk : QueueDesk) : Type 0 where
  pub depth : desk.queue.depth ≡ name.site.shape.depth
  pub loads : All (IsLoad name.site name.number) desk.queue.loads
  pub books : desk.share.books ≡ name.site.books
  pub parts : desk.share.parts ≡ 1
  pub waits : desk.share.pushes +ℤ desk.share.takes ≡ pos (length desk.queue.loads)
  pub entries : desk.share.entries ≡ desk.share.pushes
  pub repairs : desk.share.repairs ≡ pos 0

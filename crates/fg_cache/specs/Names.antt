-- The names of the locks of a cache.
use Rattle.std.specs.Prelude.{ℕ}
use Rattle.fg_cache.specs.Site.{Site}

-- a lock of this cache, with its number among those of its kind
pub record LockOf : Type 0 where
  pub site : Site
  pub number : ℕ

-- the lock of a drive, with its number, and the drive as it was when the cache was opened
pub record DriveLock (D : Type 0) : Type 0 where
  pub site : Site
  pub number : ℕ
  pub opened : D

-- What the slips of a drive's reads were made from.
use Rattle.std.specs.Prelude.{ℕ, List}
use Rattle.fg_books.specs.Shares.{BooksId}
use Rattle.fg_queue.specs.declared.load.Load.{Load}

-- the loads that one read served
pub record ReadDone : Type 0 where
  pub loads : List Load

-- the drive that failed, and the books in which its fault stands
pub record FaultOf : Type 0 where
  pub books : BooksId
  pub drive : ℕ

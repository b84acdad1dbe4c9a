use Rattle.std.proofs.Common.{◌∙◌}
use Rattle.fg_books.proofs.Keeping.{unites}
use Rattle.fg_books.proofs.books.united.Goals as goal

pub join_seat-requires : goal.join_seat-requires
join_seat-requires c = (
  c.into_seat-seat.ensures.0 ∙ c.requires.own.0,
  c.into_seat.ensures.0 ∙ c.requires.own.1,
  c.into_seat.ensures.3,
  c.requires.words,
  unites _ _ _ _ _,
)

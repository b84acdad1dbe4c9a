use Rattle.std.proofs.Common.{◌≡◌}
use Rattle.std.specs.Prelude.{All}
use Rattle.fg_batch.specs.Inbox.{with_all}
use Rattle.fg_batch.specs.Lanes.{IsFor}
use Rattle.fg_batch.proofs.inbox.Inbox.accept.Given as goal

abbrev pub invariant-loop-mail : goal.invariant-loop-mail
invariant-loop-mail g l = record {
  can : (goal.iterator-loop-mail g).can_next l.mail-iterator;
  finite : (goal.iterator-loop-mail g).is_finite l.mail-iterator;
  program : l.self.program ≡ l.fn.self.program;
  map : l.self.map ≡ l.fn.self.map;
  part : l.self.part ≡ l.fn.self.part;
  held : with_all (g.P.Program.rules l.fn.self.program) l.fn.self.map l.self.held l.mail-iterator
      ≡ with_all (g.P.Program.rules l.fn.self.program) l.fn.self.map l.fn.self.held l.fn.mails.items;
  fits : All (IsFor l.fn.self.map l.fn.self.part) l.mail-iterator;
}

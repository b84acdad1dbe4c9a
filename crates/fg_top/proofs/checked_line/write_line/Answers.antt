use Rattle.std.proofs.Common.{◌≡◌, List, ℕ, OnOk, rules, subst}
use Rattle.fg_base.specs.Told.{grown}
use Rattle.fg_top.specs.CheckJob.{checked_line}
use Rattle.fg_top.proofs.checked_line.write_line.Goals as goal

pub returns-clause-whole : goal.returns-clause-whole
returns-clause-whole g c =
    let P : List ℕ → Type 0 = λ text. OnOk c.write_all.result (g.K.Sink.written c.write_all.new.out ≡ grown (g.K.Sink.written c.args.out.now) text) in
    let line : c.as_bytes.result.now ≡ checked_line c.args.opened.now = search rules in
    subst P line c.write_all.ensures.whole

use Rattle.std.proofs.Common.{◌∙◌, ap, sym, arith}
use Rattle.std.proofs.lemmas.List.{length-take-le}
use Rattle.fg_set.specs.PageSet.{ways_of}
use Rattle.fg_set.proofs.directory.Directory.ways.Goals as goal

pub returns-clause-count : goal.returns-clause-count
returns-clause-count c =
    c.from.ensures ∙ sym (length-take-le c.self.inside.ways c.self.inside.entries (omega (arith, c.self.invariant.room, c.self.invariant.few_ways))) ∙ ap ways_of c.self.view_is

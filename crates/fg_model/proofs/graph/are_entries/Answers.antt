use Rattle.std.proofs.Common.{◌≡◌, List, take, subst, arith, rules}
use Rattle.std.specs.Prelude.{All}
use Rattle.std.proofs.lemmas.List.{take_all}
use Rattle.std.proofs.lemmas.List.Elements.{All-more}
use Rattle.fg_base.specs.declared.plain.Entry.{Entry}
use Rattle.fg_model.specs.Graph.{IsEntryOf}
use Rattle.fg_model.proofs.graph.are_entries.Goals as goal

pub loop-entry-preserved : goal.loop-entry-preserved
loop-entry-preserved c = All-more (IsEntryOf c.args.weighted) c.args.entries.now c.loop-entry.entry-index (record { target = 0; weight = 0 }) c.loop-entry-test.true c.loop-entry.invariant (c.is_entry.ensures.0 (cc (c.if-not-is_entry.false)))

pub returns : goal.returns
returns c =
    let whole : take c.loop-entry.entry-index c.args.entries.now ≡ c.args.entries.now = take_all c.loop-entry.entry-index c.args.entries.now (omega (arith, c.loop-entry-test.false)) in
    let of_list : List Entry → Type 0 = λ xs. All (IsEntryOf c.args.weighted) xs in
    (λ yes. subst of_list whole c.loop-entry.invariant, λ all. search rules)

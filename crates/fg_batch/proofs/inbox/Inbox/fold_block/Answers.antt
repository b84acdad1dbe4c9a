use Rattle.std.proofs.Common.{◌≡◌, ℕ, ◌+◌, ◌*◌, ◌<◌, ◌≤◌, Some, None, true, get_or, length, take, sym, ap, ◌∙◌, arith}
use Rattle.std.proofs.lemmas.Grind.{get_or_default_zero}
use Rattle.fg_batch.proofs.BlockLaws.{block-inside, block-more, block-none, block-skip, cut-count, cut-covers, cut-same}
use Rattle.fg_batch.proofs.HeldLaws.{held_none, held_some}
use Rattle.fg_batch.specs.Bits.{is_in}
use Rattle.fg_batch.specs.Inbox.{held_by}
use Rattle.fg_batch.proofs.inbox.Inbox.fold_block.Goals as goal

pub slice_bounds-came-end : goal.slice_bounds-came-end
slice_bounds-came-end g c =
    let below = rw (← c.self.view_is) at c.requires.number in
    let short = rw (← c.self.view_is) at c.requires.count in
    cut-count c.self.inside.map c.self.inside.part c.args.number c.block_size.result (length c.args.states.now) c.div_ceil.result c.self.inside.numbers.items c.self.inside.came.items
    c.deref.result.now c.self.inside.flags.items c.self.invariant below short c.block_size.ensures.value c.deref.ensures.value c.div_ceil.ensures

pub loop-place-init : goal.loop-place-init
loop-place-init g c =
    let below = rw (← c.self.view_is) at c.requires.number in
    let short = rw (← c.self.view_is) at c.requires.count in
    let numbers = c.self.inside.numbers.items in
    let came = c.self.inside.came.items in
    let first = c.args.number * c.block_size.result in
    let same = cut-same c.self.inside.map c.self.inside.part c.args.number c.block_size.result (length c.args.states.now) c.div_ceil.result numbers came
    c.deref.result.now c.self.inside.flags.items c.self.invariant below short c.block_size.ensures.value c.deref.ensures.value c.div_ceil.ensures in
    let found = c.next_in-place.ensures in
    let none : (k : ℕ) → first ≤ k → k < c.next_in-place.result → get_or (held_by numbers came) k None ≡ None =
    λ k from before. held_none numbers came k (sym (same k (omega (arith, before, found.within))) ∙ found.below k from before) in
    record {
      folded = block-skip (g.P.Program.rules c.self.inside.program.now) first (held_by numbers came) c.args.states.now first c.next_in-place.result c.args.states.now none found.order
          (block-none (g.P.Program.rules c.self.inside.program.now) first (held_by numbers came) c.args.states.now);
      from = found.order;
      within = found.within;
      found = found.found;
    }

pub index-requires : goal.index-requires
index-requires g c =
    let below = rw (← c.self.view_is) at c.requires.number in
    let short = rw (← c.self.view_is) at c.requires.count in
    let inside = block-inside c.self.inside.map c.self.inside.part c.args.number c.block_size.result (length c.args.states.now) c.div_ceil.result c.self.inside.numbers.items
    c.self.inside.came.items c.deref.result.now c.self.inside.flags.items c.self.invariant below short c.block_size.ensures.value c.deref.ensures.value c.div_ceil.ensures in
    omega (arith, inside, c.loop-place-test.true, c.self.inside.numbers.ok.0)

pub next_in-place-requires-in-loop-place-clause-from : goal.next_in-place-requires-in-loop-place-clause-from
next_in-place-requires-in-loop-place-clause-from g c =
    let below = rw (← c.self.view_is) at c.requires.number in
    let short = rw (← c.self.view_is) at c.requires.count in
    let covers = cut-covers c.self.inside.map c.self.inside.part c.args.number c.block_size.result (length c.args.states.now) c.div_ceil.result c.self.inside.numbers.items
    c.self.inside.came.items c.deref.result.now c.self.inside.flags.items c.self.invariant below short c.block_size.ensures.value c.deref.ensures.value c.div_ceil.ensures in
    omega (arith, covers, c.loop-place-test.true)

pub loop-place-preserved : goal.loop-place-preserved
loop-place-preserved g c =
    let P = g.P.Program.rules c.self.inside.program.now in
    let below = rw (← c.self.view_is) at c.requires.number in
    let short = rw (← c.self.view_is) at c.requires.count in
    let numbers = c.self.inside.numbers.items in
    let came = c.self.inside.came.items in
    let held = held_by numbers came in
    let old = c.args.states.now in
    let first = c.args.number * c.block_size.result in
    let at = c.loop-place.place in
    let kept = c.loop-place.invariant in
    let inside = block-inside c.self.inside.map c.self.inside.part c.args.number c.block_size.result (length old) c.div_ceil.result numbers came c.deref.result.now c.self.inside.flags.items
    c.self.invariant below short c.block_size.ensures.value c.deref.ensures.value c.div_ceil.ensures in
    let covers = cut-covers c.self.inside.map c.self.inside.part c.args.number c.block_size.result (length old) c.div_ceil.result numbers came c.deref.result.now c.self.inside.flags.items
    c.self.invariant below short c.block_size.ensures.value c.deref.ensures.value c.div_ceil.ensures in
    let same = cut-same c.self.inside.map c.self.inside.part c.args.number c.block_size.result (length old) c.div_ceil.result numbers came c.deref.result.now c.self.inside.flags.items
    c.self.invariant below short c.block_size.ensures.value c.deref.ensures.value c.div_ceil.ensures in
    let end : at < first + length old = omega (arith, c.loop-place-test.true) in
    let within : at < length numbers = omega (arith, end, inside) in
    let cut : at < length (take c.div_ceil.result c.deref.result.now) * 64 = omega (arith, end, covers) in
    let member : is_in came at ≡ true = sym (same at cut) ∙ kept.found cut in
    let number : c.index.result.now ≡ get_or numbers at 0 = c.index.ensures ∙ get_or_default_zero numbers at c.index.result.now within in
    let holds : get_or held at None ≡ Some c.index.result.now = held_some numbers came at within member ∙ ap Some (sym number) in
    let more = block-more P first held old at c.index.result.now c.loop-place.states c.fold_at.new.states kept.folded kept.from end holds c.fold_at.ensures.count c.fold_at.ensures.there c.fold_at.ensures.other in
    let found = c.next_in-place-in-loop-place.ensures in
    let none : (k : ℕ) → at + 1 ≤ k → k < c.next_in-place-in-loop-place.result → get_or held k None ≡ None =
    λ k from before. held_none numbers came k (sym (same k (omega (arith, before, found.within))) ∙ found.below k from before) in
    record {
      folded = block-skip P first held old (at + 1) c.next_in-place-in-loop-place.result c.fold_at.new.states none found.order more;
      from = omega (arith, kept.from, found.order);
      within = found.within;
      found = found.found;
    }

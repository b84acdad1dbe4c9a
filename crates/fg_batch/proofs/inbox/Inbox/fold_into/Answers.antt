use Rattle.std.proofs.Common.{◌≡◌, ℕ, ◌+◌, ◌<◌, ◌≤◌, Some, None, true, get_or, length, sym, ap, ◌∙◌, arith}
use Rattle.std.proofs.lemmas.Grind.{get_or_default_zero}
use Rattle.fg_batch.proofs.HeldLaws.{held_none, held_some}
use Rattle.fg_batch.proofs.InboxLaws.{folded-all, folded-more, folded-none, folded-skip}
use Rattle.fg_batch.specs.Bits.{is_in}
use Rattle.fg_batch.specs.Inbox.{held_by}
use Rattle.fg_batch.proofs.inbox.Inbox.fold_into.Goals as goal

pub loop-place-init : goal.loop-place-init
loop-place-init g c =
    let P = g.P.Program.rules c.self.inside.program.now in
    let map = c.self.inside.map in
    let part = c.self.inside.part in
    let numbers = c.self.inside.numbers.items in
    let came = c.self.inside.came.items in
    let old = c.args.states.now in
    let below = rw c.deref.ensures.value at c.next_in-place.ensures.below in
    let none : (k : ℕ) → 0 ≤ k → k < c.next_in-place.result → get_or (held_by numbers came) k None ≡ None =
    λ k from before. held_none numbers came k (below k from before) in
    record {
      folded = folded-skip P map part (held_by numbers came) old 0 c.next_in-place.result old none c.next_in-place.ensures.order (folded-none P map part (held_by numbers came) old);
      within = rw c.deref.ensures.value at c.next_in-place.ensures.within;
      found = rw c.deref.ensures.value at c.next_in-place.ensures.found;
    }

pub loop-place-preserved : goal.loop-place-preserved
loop-place-preserved g c =
    let P = g.P.Program.rules c.self.inside.program.now in
    let map = c.self.inside.map in
    let part = c.self.inside.part in
    let numbers = c.self.inside.numbers.items in
    let came = c.self.inside.came.items in
    let old = c.args.states.now in
    let at = c.loop-place.place in
    let next = c.next_in-place-in-loop-place.result in
    let within : at < length numbers = omega (arith, c.loop-place-test.true, c.places-places.ensures.value, c.self.invariant.count) in
    let member : is_in came at ≡ true = c.loop-place.invariant.found (omega (arith, within, c.self.invariant.enough)) in
    let number : c.index.result.now ≡ get_or numbers at 0 = c.index.ensures ∙ get_or_default_zero numbers at c.index.result.now within in
    let holds : get_or (held_by numbers came) at None ≡ Some c.index.result.now = held_some numbers came at within member ∙ ap Some (sym number) in
    let many = rw (← c.self.view_is) at c.requires in
    let more = folded-more P map part (held_by numbers came) old at c.index.result.now c.vertex_at-v.result c.loop-place.states c.fold_at.new.states
    c.loop-place.invariant.folded c.vertex_at-v.ensures.value many c.self.invariant.own holds c.fold_at.ensures.count c.fold_at.ensures.there c.fold_at.ensures.other in
    let below = rw c.deref-in-loop-place.ensures.value at c.next_in-place-in-loop-place.ensures.below in
    let none : (k : ℕ) → at + 1 ≤ k → k < next → get_or (held_by numbers came) k None ≡ None =
    λ k from before. held_none numbers came k (below k from before) in
    record {
      folded = folded-skip P map part (held_by numbers came) old (at + 1) next c.fold_at.new.states none c.next_in-place-in-loop-place.ensures.order more;
      within = rw c.deref-in-loop-place.ensures.value at c.next_in-place-in-loop-place.ensures.within;
      found = rw c.deref-in-loop-place.ensures.value at c.next_in-place-in-loop-place.ensures.found;
    }

pub returns-clause-folded : goal.returns-clause-folded
returns-clause-folded g c =
    let map = c.self.inside.map in
    let held = held_by c.self.inside.numbers.items c.self.inside.came.items in
    rw (← c.self.view_is)
    (folded-all (g.P.Program.rules c.self.inside.program.now) map c.self.inside.part held c.args.states.now c.loop-place.place c.loop-place.states
    c.loop-place.invariant.folded (omega (arith, c.loop-place-test.false, c.places-places.ensures.value)) map.some_parts)

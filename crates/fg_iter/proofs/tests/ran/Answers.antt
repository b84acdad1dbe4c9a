use Rattle.std.proofs.Common.{ℕ, List, ap, subst, sym, ◌∙◌, arith}
use Rattle.std.specs.Int.{div_ceil}
use Rattle.fg_base.specs.declared.plain.VState.{VState}
use Rattle.fg_iter.proofs.RingLaws.{opened_fits, opened_ring, ring_fits, ring_weighs}
use Rattle.fg_model.specs.Iteration.{AreStates}
use Rattle.fg_part.specs.PartMap.{block_size}
use Rattle.fg_iter.proofs.tests.ran.Goals as goal

pub run_by_crew-done-requires-clause-limits : goal.run_by_crew-done-requires-clause-limits
run_by_crew-done-requires-clause-limits g c κs within = ring_fits 29 (omega arith)

pub run_by_crew-done-requires-clause-weights : goal.run_by_crew-done-requires-clause-weights
run_by_crew-done-requires-clause-weights g c κs within =
    let made = c.in_ok-weights.ensures.items_if_clones_equal (λ y same. same) in
    ring_weighs 3 29 c.div_ceil.result _ c.new-map.result c.deref.result.now c.new-map.ensures.0 (c.deref.ensures.value ∙ made)
    (c.div_ceil.ensures ∙ ap (λ (size : ℕ). div_ceil 29 size) c.block_size-size.ensures.value
    ∙ ap (λ (n : ℕ). div_ceil n (block_size c.new-map.result)) (sym c.new-map.ensures.0))
    (omega (arith, c.from.ensures, c.block_size-size.ensures.value))

pub run_by_crew-done-requires-clause-opening : goal.run_by_crew-done-requires-clause-opening
run_by_crew-done-requires-clause-opening g c κs within = c.in_ok-states.ensures ∙ opened_ring 3 29

pub run_by_crew-done-requires-clause-are_states : goal.run_by_crew-done-requires-clause-are_states
run_by_crew-done-requires-clause-are_states g c κs within =
    subst (λ (states : List VState). AreStates 29 states) (sym c.in_ok-states.ensures) (opened_fits 3 29)

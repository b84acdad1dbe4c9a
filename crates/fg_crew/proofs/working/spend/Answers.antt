use Rattle.std.proofs.Common.{◌≡◌, ℕ, ◌<◌, List, [], ◌∷◌, ◌++◌, slice_index, sym, ◌∙◌, subst}
use Rattle.fg_crew.specs.Claimed.{AddsResult, AreResults, block_drawn, plan_of}
use Rattle.fg_task.specs.Spending.{HasRoom}
use Rattle.fg_crew.proofs.CaseLaws.{if_some}
use Rattle.fg_crew.proofs.DrawLaws.{results-more}
use Rattle.fg_crew.proofs.SpendLaws.{draws-more, room-for_one, room-later}
use Rattle.fg_crew.proofs.SpendingLaws.{spent-then}
use Rattle.fg_steal.specs.Claims.{times_drawn}
use Rattle.fg_crew.proofs.working.spend.Goals as goal

pub run_one-requires-clause-room : goal.run_one-requires-clause-room
run_one-requires-clause-room g c κs within =
    let runs = g.B.RunsBlock in
    let blocks = runs.blocks c.args.wave.now.runner.now in
    let plan = plan_of runs.blocks c.args.wave.now in
    let part = c.args.part in
    let number = c.in-Some-drawn.number in
    let drawn = c.loop.seat.drawn in
    let spent = runs.spent c.loop.kept in
    let below = if_some (λ (k : ℕ). k < slice_index plan.counts part) c.draw-next.result.1 number c.in-Some-drawn.is c.draw-next.ensures.block in
    let new = if_some (λ (k : ℕ). times_drawn part k drawn ≡ 0) c.draw-next.result.1 number c.in-Some-drawn.is c.draw-next.ensures.new in
    let room = room-later plan (runs.spent c.args.kept.now) spent c.args.seat.drawn drawn c.loop.invariant.few c.requires.room in
    subst (λ (b : ℕ). HasRoom spent (blocks.active_of b) (blocks.needed_of b)) (sym {b = block_drawn plan (part, number)} c.block_of-block.ensures)
    (room-for_one plan c.requires.dealt spent drawn part number room c.loop.invariant.results.once below new)

pub loop-preserved : goal.loop-preserved
loop-preserved g c =
    let runs = g.B.RunsBlock in
    let blocks = runs.blocks c.args.wave.now.runner.now in
    let plan = plan_of runs.blocks c.args.wave.now in
    let part = c.args.part in
    let number = c.in-Some-drawn.number in
    let now = c.run_one.new.results.items in
    let first = runs.spent c.args.kept.now in
    let middle = runs.spent c.loop.kept in
    let last = runs.spent c.run_one.new.kept in
    let below = if_some (λ (k : ℕ). k < slice_index plan.counts part) c.draw-next.result.1 number c.in-Some-drawn.is c.draw-next.ensures.block in
    let new = if_some (λ (k : ℕ). times_drawn part k c.loop.seat.drawn ≡ 0) c.draw-next.result.1 number c.in-Some-drawn.is c.draw-next.ensures.new in
    let drawn = if_some (λ (k : ℕ). (c.draw-next.result.0.drawn ≡ c.loop.seat.drawn ++ (part, k) ∷ []) × (c.draw-next.result.0.told ≡ c.loop.seat.told)) c.draw-next.result.1 number
    c.in-Some-drawn.is c.draw-next.ensures.drawn in
    let added : AddsResult blocks (block_drawn plan (part, number)) c.loop.results.items now =
    subst (λ (b : ℕ). AddsResult blocks b c.loop.results.items now) {y = block_drawn plan (part, number)} c.block_of-block.ensures c.in-Ok.ensures.added in
    record {
      goes_on = (tt, tt);
      own = c.draw-next.ensures.own.0;
      told = drawn.1 ∙ c.loop.invariant.told;
      results = subst (λ (draws : List (ℕ × ℕ)). AreResults plan draws now) (sym drawn.0)
          (results-more plan c.loop.seat.drawn c.loop.results.items now part number c.loop.invariant.results below new added);
      few = draws-more plan first middle c.args.seat.drawn c.loop.seat.drawn c.loop.invariant.few part number c.block_of-block.result last c.draw-next.result.0.drawn
          c.block_of-block.ensures drawn.0 c.in-Ok.ensures.few;
      lent = c.in-Ok.ensures.lent;
      exact = spent-then blocks first middle last c.args.results.now.items c.loop.results.items now c.loop.invariant.exact c.in-Ok.ensures.exact;
    }

pub returns-in-Err-clause-few : goal.returns-in-Err-clause-few
returns-in-Err-clause-few g c =
    let runs = g.B.RunsBlock in
    let plan = plan_of runs.blocks c.args.wave.now in
    let part = c.args.part in
    let number = c.in-Some-drawn.number in
    let drawn = if_some (λ (k : ℕ). (c.draw-next.result.0.drawn ≡ c.loop.seat.drawn ++ (part, k) ∷ []) × (c.draw-next.result.0.told ≡ c.loop.seat.told)) c.draw-next.result.1 number
    c.in-Some-drawn.is c.draw-next.ensures.drawn in
    draws-more plan (runs.spent c.args.kept.now) (runs.spent c.loop.kept) c.args.seat.drawn c.loop.seat.drawn c.loop.invariant.few part number c.block_of-block.result
    (runs.spent c.run_one.new.kept) c.draw-next.result.0.drawn c.block_of-block.ensures drawn.0 c.in-Err.ensures.few

use Rattle.std.proofs.Common.{◌≡◌, ℕ, ◌≤◌, None, List, length, map, refl, sym, ap, ◌∙◌, subst, arith, rules}
use Rattle.std.specs.Prelude.{IsSome}
use Rattle.std.specs.List.{sum_by}
use Rattle.fg_crew.specs.Wave.{blocks_in}
use Rattle.fg_wave.specs.Waves.{IsTold, MoreCame, SpentAsTold}
use Rattle.fg_wave.proofs.WavesLaws.{blocks-all, came-end, came-none, came-to, each-then, each-whole, in_all-then, in_all-within, room-next, some-count}
use Rattle.fg_wave.proofs.WavesLaws.{spent-end, spent-none, spent-to, sum-then, sum-whole, told-end, told-none, told-to}
use Rattle.fg_wave.proofs.waves.run_waves.Goals as goal

pub loop-from-init : goal.loop-from-init
loop-from-init g c =
    let runs = g.B.RunsBlock in
    let blocks = runs.blocks c.args.runner.now in
    record {
      inside = omega arith;
      fine = refl;
      told = told-none blocks _ (refl, refl, refl);
      came = came-none blocks (g.P.Program.rules c.args.inboxes.now.program) c.args.inboxes.now.map _ c.args.inboxes.now.parts;
      exact = spent-none blocks _ (map (λ slot. runs.spent slot.kept) c.args.slots.now) (refl, refl, refl);
      count = refl;
      lent = c.requires.lent;
      few = λ k d below. record { few_runs = omega arith; few_entries = omega arith };
      few_in_all = record { few_runs = omega arith; few_entries = omega arith };
      program = refl;
      inbox_map = refl;
    }

pub run_wave-requires-clause-map : goal.run_wave-requires-clause-map
run_wave-requires-clause-map g c κs within = c.requires.map ∙ sym c.loop-from.invariant.inbox_map

pub run_wave-requires-clause-bounded : goal.run_wave-requires-clause-bounded
run_wave-requires-clause-bounded g c κs within =
    c.wave_end-to.ensures.bounded (g.B.RunsBlock.blocks c.args.runner.now) c.args.list.now c.requires.weights

pub run_wave-requires-clause-room : goal.run_wave-requires-clause-room
run_wave-requires-clause-room g c κs within =
    let runs = g.B.RunsBlock in
    room-next (runs.blocks c.args.runner.now) c.args.list.now runs.spent c.loop-from.from c.wave_end-to.result (omega arith) (omega arith) c.args.slots.now c.loop-from.slots
    c.loop-from.invariant.count c.loop-from.invariant.few c.requires.room

pub returns-in-Err-clause-few : goal.returns-in-Err-clause-few
returns-in-Err-clause-few g c =
    let runs = g.B.RunsBlock in
    let blocks = runs.blocks c.args.runner.now in
    each-whole blocks c.args.list.now runs.spent c.wave_end-to.result (omega arith) c.args.slots.now c.run_wave.new.slots
    (each-then blocks c.args.list.now runs.spent c.loop-from.from c.wave_end-to.result (omega arith) c.args.slots.now c.loop-from.slots c.run_wave.new.slots
    c.loop-from.invariant.count c.loop-from.invariant.few c.in-Err.ensures.few)

pub returns-in-Err-clause-few_in_all : goal.returns-in-Err-clause-few_in_all
returns-in-Err-clause-few_in_all g c =
    let runs = g.B.RunsBlock in
    let blocks = runs.blocks c.args.runner.now in
    let list = c.args.list.now in
    sum-whole blocks list c.wave_end-to.result (omega arith) (map (λ slot. runs.spent slot.kept) c.args.slots.now) (map (λ slot. runs.spent slot.kept) c.run_wave.new.slots)
    (sum-then blocks list c.loop-from.from c.wave_end-to.result (omega arith) (map (λ slot. runs.spent slot.kept) c.args.slots.now) (map (λ slot. runs.spent slot.kept) c.loop-from.slots)
    (map (λ slot. runs.spent slot.kept) c.run_wave.new.slots) c.loop-from.invariant.few_in_all c.in-Err.ensures.few_in_all)

pub then-told-requires-clause-active : goal.then-told-requires-clause-active
then-told-requires-clause-active g c =
    let runs = g.B.RunsBlock in
    let blocks = runs.blocks c.args.runner.now in
    let list = c.args.list.now in
    let ordered : c.loop-from.from ≤ c.wave_end-to.result = omega arith in
    let inside : c.wave_end-to.result ≤ length list = omega arith in
    let few = some-count runs.spent (sum_by blocks.active_of list) (sum_by blocks.needed_of list) c.args.slots.now c.requires.workers.0 c.requires.room in
    omega (arith, few.0, c.loop-from.invariant.told.few_active, c.in-Ok.ensures.told.few_active, in_all-then list blocks.active_of c.loop-from.from c.wave_end-to.result ordered, in_all-within list blocks.active_of c.wave_end-to.result inside)

pub then-told-requires-clause-sent : goal.then-told-requires-clause-sent
then-told-requires-clause-sent g c =
    let runs = g.B.RunsBlock in
    let blocks = runs.blocks c.args.runner.now in
    let list = c.args.list.now in
    let ordered : c.loop-from.from ≤ c.wave_end-to.result = omega arith in
    let inside : c.wave_end-to.result ≤ length list = omega arith in
    let few = some-count runs.spent (sum_by blocks.active_of list) (sum_by blocks.needed_of list) c.args.slots.now c.requires.workers.0 c.requires.room in
    omega (arith, few.1, c.loop-from.invariant.told.few_sent, c.in-Ok.ensures.told.few_sent, in_all-then list blocks.needed_of c.loop-from.from c.wave_end-to.result ordered, in_all-within list blocks.needed_of c.wave_end-to.result inside)

pub returns-then-is_some-clause-told : goal.returns-then-is_some-clause-told
returns-then-is_some-clause-told g c =
    let blocks = g.B.RunsBlock.blocks c.args.runner.now in
    let list = c.args.list.now in
    let some : IsSome c.then-told.result.bad = search rules in
    told-end blocks list c.wave_end-to.result (omega arith) c.then-told.result some
    (told-to blocks list c.loop-from.from c.wave_end-to.result (omega arith) c.loop-from.told c.in-Ok.next c.then-told.result c.loop-from.invariant.fine c.then-told.ensures
    c.loop-from.invariant.told c.in-Ok.ensures.told)

pub returns-then-is_some-clause-came : goal.returns-then-is_some-clause-came
returns-then-is_some-clause-came g c =
    let blocks = g.B.RunsBlock.blocks c.args.runner.now in
    let list = c.args.list.now in
    let P = g.P.Program.rules in
    let some : IsSome c.then-told.result.bad = search rules in
    came-end blocks list c.wave_end-to.result (omega arith) c.then-told.result some (P c.args.inboxes.now.program) c.args.inboxes.now.map c.args.inboxes.now.parts c.run_wave.new.inboxes.parts
    (came-to blocks list c.loop-from.from c.wave_end-to.result (omega arith) c.loop-from.told c.in-Ok.next c.then-told.result c.loop-from.invariant.fine c.then-told.ensures
    P c.args.inboxes.now.program c.loop-from.inboxes.program c.args.inboxes.now.map c.loop-from.inboxes.map c.args.inboxes.now.parts c.loop-from.inboxes.parts c.run_wave.new.inboxes.parts
    c.loop-from.invariant.program c.loop-from.invariant.inbox_map c.loop-from.invariant.came c.in-Ok.ensures.came)

pub returns-then-is_some-clause-exact : goal.returns-then-is_some-clause-exact
returns-then-is_some-clause-exact g c =
    let runs = g.B.RunsBlock in
    let blocks = runs.blocks c.args.runner.now in
    let list = c.args.list.now in
    let some : IsSome c.then-told.result.bad = search rules in
    spent-end blocks list c.wave_end-to.result (omega arith) c.then-told.result some (map (λ slot. runs.spent slot.kept) c.args.slots.now) (map (λ slot. runs.spent slot.kept) c.run_wave.new.slots)
    (spent-to blocks list c.loop-from.from c.wave_end-to.result (omega arith) c.loop-from.told c.in-Ok.next c.then-told.result c.loop-from.invariant.fine c.then-told.ensures
    _ _ _ c.loop-from.invariant.exact c.in-Ok.ensures.exact)

pub returns-then-is_some-clause-few : goal.returns-then-is_some-clause-few
returns-then-is_some-clause-few g c =
    let runs = g.B.RunsBlock in
    let blocks = runs.blocks c.args.runner.now in
    each-whole blocks c.args.list.now runs.spent c.wave_end-to.result (omega arith) c.args.slots.now c.run_wave.new.slots
    (each-then blocks c.args.list.now runs.spent c.loop-from.from c.wave_end-to.result (omega arith) c.args.slots.now c.loop-from.slots c.run_wave.new.slots
    c.loop-from.invariant.count c.loop-from.invariant.few c.in-Ok.ensures.few)

pub returns-then-is_some-clause-few_in_all : goal.returns-then-is_some-clause-few_in_all
returns-then-is_some-clause-few_in_all g c =
    let runs = g.B.RunsBlock in
    let blocks = runs.blocks c.args.runner.now in
    let list = c.args.list.now in
    sum-whole blocks list c.wave_end-to.result (omega arith) (map (λ slot. runs.spent slot.kept) c.args.slots.now) (map (λ slot. runs.spent slot.kept) c.run_wave.new.slots)
    (sum-then blocks list c.loop-from.from c.wave_end-to.result (omega arith) (map (λ slot. runs.spent slot.kept) c.args.slots.now) (map (λ slot. runs.spent slot.kept) c.loop-from.slots)
    (map (λ slot. runs.spent slot.kept) c.run_wave.new.slots) c.loop-from.invariant.few_in_all c.in-Ok.ensures.few_in_all)

pub loop-from-preserved : goal.loop-from-preserved
loop-from-preserved g c =
    let runs = g.B.RunsBlock in
    let blocks = runs.blocks c.args.runner.now in
    let list = c.args.list.now in
    let P = g.P.Program.rules in
    let fine : c.then-told.result.bad ≡ None = search rules in
    record {
      inside = omega arith;
      fine = fine;
      told = told-to blocks list c.loop-from.from c.wave_end-to.result (omega arith) c.loop-from.told c.in-Ok.next c.then-told.result c.loop-from.invariant.fine c.then-told.ensures
          c.loop-from.invariant.told c.in-Ok.ensures.told;
      came = came-to blocks list c.loop-from.from c.wave_end-to.result (omega arith) c.loop-from.told c.in-Ok.next c.then-told.result c.loop-from.invariant.fine c.then-told.ensures
          P c.args.inboxes.now.program c.loop-from.inboxes.program c.args.inboxes.now.map c.loop-from.inboxes.map c.args.inboxes.now.parts c.loop-from.inboxes.parts c.run_wave.new.inboxes.parts
          c.loop-from.invariant.program c.loop-from.invariant.inbox_map c.loop-from.invariant.came c.in-Ok.ensures.came;
      exact = spent-to blocks list c.loop-from.from c.wave_end-to.result (omega arith) c.loop-from.told c.in-Ok.next c.then-told.result c.loop-from.invariant.fine c.then-told.ensures
          _ _ _ c.loop-from.invariant.exact c.in-Ok.ensures.exact;
      count = c.in-Ok.ensures.count ∙ c.loop-from.invariant.count;
      lent = c.in-Ok.ensures.lent;
      few = each-then blocks list runs.spent c.loop-from.from c.wave_end-to.result (omega arith) c.args.slots.now c.loop-from.slots c.run_wave.new.slots
          c.loop-from.invariant.count c.loop-from.invariant.few c.in-Ok.ensures.few;
      few_in_all = sum-then blocks list c.loop-from.from c.wave_end-to.result (omega arith) (map (λ slot. runs.spent slot.kept) c.args.slots.now)
          (map (λ slot. runs.spent slot.kept) c.loop-from.slots) (map (λ slot. runs.spent slot.kept) c.run_wave.new.slots) c.loop-from.invariant.few_in_all c.in-Ok.ensures.few_in_all;
      program = c.in-Ok.ensures.program ∙ c.loop-from.invariant.program;
      inbox_map = c.in-Ok.ensures.inbox_map ∙ c.loop-from.invariant.inbox_map;
    }

pub returns-clause-told : goal.returns-clause-told
returns-clause-told g c =
    let list = c.args.list.now in
    let ended : c.loop-from.from ≡ length list = omega arith in
    subst (λ (l : List ℕ). IsTold (g.B.RunsBlock.blocks c.args.runner.now) l c.loop-from.told) (ap (blocks_in list 0) ended ∙ blocks-all list) c.loop-from.invariant.told

pub returns-clause-came : goal.returns-clause-came
returns-clause-came g c =
    let list = c.args.list.now in
    let ended : c.loop-from.from ≡ length list = omega arith in
    subst (λ (l : List ℕ). MoreCame (g.P.Program.rules c.args.inboxes.now.program) c.args.inboxes.now.map (g.B.RunsBlock.blocks c.args.runner.now) l c.loop-from.told
    c.args.inboxes.now.parts c.loop-from.inboxes.parts) (ap (blocks_in list 0) ended ∙ blocks-all list) c.loop-from.invariant.came

pub returns-clause-exact : goal.returns-clause-exact
returns-clause-exact g c =
    let runs = g.B.RunsBlock in
    let list = c.args.list.now in
    let ended : c.loop-from.from ≡ length list = omega arith in
    subst (λ (l : List ℕ). SpentAsTold (runs.blocks c.args.runner.now) l (map (λ slot. runs.spent slot.kept) c.args.slots.now) (map (λ slot. runs.spent slot.kept) c.loop-from.slots)
    c.loop-from.told) (ap (blocks_in list 0) ended ∙ blocks-all list) c.loop-from.invariant.exact

pub returns-clause-few : goal.returns-clause-few
returns-clause-few g c =
    let runs = g.B.RunsBlock in
    each-whole (runs.blocks c.args.runner.now) c.args.list.now runs.spent c.loop-from.from (omega arith) c.args.slots.now c.loop-from.slots c.loop-from.invariant.few

pub returns-clause-few_in_all : goal.returns-clause-few_in_all
returns-clause-few_in_all g c =
    let runs = g.B.RunsBlock in
    sum-whole (runs.blocks c.args.runner.now) c.args.list.now c.loop-from.from (omega arith) (map (λ slot. runs.spent slot.kept) c.args.slots.now)
    (map (λ slot. runs.spent slot.kept) c.loop-from.slots) c.loop-from.invariant.few_in_all

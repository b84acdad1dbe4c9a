use Rattle.std.proofs.Common.{◌≡◌, ◌-◌, ◌≤◌, None, length, map}
use Rattle.std.specs.Prelude.{All}
use Rattle.fg_crew.specs.Wave.{EachSpentWithin, blocks_in}
use Rattle.fg_task.specs.Spending.{SpentInAllUpTo}
use Rattle.fg_wave.specs.Waves.{IsTold, MoreCame, SpentAsTold}
use Rattle.fg_wave.proofs.waves.run_waves.Given as goal

abbrev pub invariant-loop-from : goal.invariant-loop-from
invariant-loop-from g l =
    let runs = g.B.RunsBlock in
    let blocks = runs.blocks l.runner in
    let ran = blocks_in l.list 0 l.from in
    record {
      inside : l.from ≤ length l.list;
      fine : l.told.bad ≡ None;
      told : IsTold blocks ran l.told;
      came : MoreCame (g.P.Program.rules l.fn.inboxes.program) l.fn.inboxes.map blocks ran l.told l.fn.inboxes.parts l.inboxes.parts;
      exact : SpentAsTold blocks ran (map (λ slot. runs.spent slot.kept) l.fn.slots) (map (λ slot. runs.spent slot.kept) l.slots) l.told;
      count : length l.slots ≡ length l.fn.slots;
      lent : All (λ slot. runs.lends l.runner slot.kept) l.slots;
      few : EachSpentWithin runs.spent blocks l.list 0 l.from l.fn.slots l.slots;
      few_in_all : SpentInAllUpTo blocks ran (map (λ slot. runs.spent slot.kept) l.fn.slots) (map (λ slot. runs.spent slot.kept) l.slots);
      program : l.inboxes.program ≡ l.fn.inboxes.program;
      inbox_map : l.inboxes.map ≡ l.fn.inboxes.map;
    }

abbrev pub decreases-loop-from : goal.decreases-loop-from
decreases-loop-from g l = length l.list - l.from

use Rattle.std.proofs.Common.{◌≡◌, ℕ, ◌+◌, ◌-◌, ◌*◌, ◌<◌, ◌≤◌, length}
use Rattle.fg_batch.specs.Inbox.{received}
use Rattle.fg_gather.specs.Arrivals.{came_to}
use Rattle.fg_gather.specs.Gather.{run_state}
use Rattle.fg_model.specs.Iteration.{state_at}
use Rattle.fg_part.specs.PartMap.{block_size}
use Rattle.fg_gather.proofs.gather.gather_run.Given as goal

abbrev pub invariant-loop-at : goal.invariant-loop-at
invariant-loop-at g l =
    let P = g.P.Program.rules l.inboxes.program in
    let map = l.inboxes.map in
    record {
      count : length l.states ≡ length l.fn.states;
      within : l.at ≤ length l.fn.states;
      block : ℕ;
      begins : l.at < length l.fn.states → l.first + l.at ≡ block * block_size map;
      done : (k : ℕ) → k < l.at → state_at l.states k ≡ received P (came_to map l.inboxes.parts (l.first + k)) (run_state P map l.phase l.marks (l.first + k) (state_at l.fn.states k));
      ahead : (k : ℕ) → l.at ≤ k → state_at l.states k ≡ state_at l.fn.states k;
    }

abbrev pub decreases-loop-at : goal.decreases-loop-at
decreases-loop-at g l = length l.initial.states - l.at

use Rattle.std.proofs.Common.{◌≡◌, ℕ, ◌+◌, ◌<◌, ◌≤◌, length}
use Rattle.fg_model.specs.Iteration.{own_state, state_at}
use Rattle.fg_gather.proofs.gather.run_all.Given as goal

abbrev pub invariant-loop-at : goal.invariant-loop-at
invariant-loop-at g l = record {
  count : length l.states ≡ length l.fn.states;
  done : (k : ℕ) → k < l.at → state_at l.states k ≡ own_state (g.P.Program.rules l.program) l.phase (l.first + k) (state_at l.fn.states k);
  ahead : (k : ℕ) → l.at ≤ k → state_at l.states k ≡ state_at l.fn.states k;
}

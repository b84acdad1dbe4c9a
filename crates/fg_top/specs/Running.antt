-- A run from behind its head on: what it comes to, and what is written at its end.
use Rattle.std.specs.Prelude.{◌≡◌, ◌<◌, ℕ, Bool, Option, None, Some, Result, Ok, Err, List, ◌++◌, IfSome, map}
use Rattle.fg_base.specs.declared.plain.Value.{Value}
use Rattle.fg_base.specs.declared.plain.VState.{VState}
use Rattle.fg_base.specs.declared.refusal.Refusal.{Refusal}
use Rattle.fg_model.specs.declared.run.End.{End}
use Rattle.fg_model.specs.declared.run.RunFault.{RunFault}
use Rattle.fg_model.specs.Program.{Rules}
use Rattle.fg_model.specs.Run.{Run}
use Rattle.fg_report.specs.Refusals.{refusal_line}
use Rattle.fg_words.specs.declared.jobs.JobFault.{JobFault}
use Rattle.fg_words.specs.declared.jobs.Pick.{Pick}
use Rattle.fg_top.specs.declared.stats.Stats.{Stats}
use Rattle.fg_top.specs.declared.wish.Wish.{Wish}
use Rattle.fg_top.specs.Calls.{Output}
use Rattle.fg_top.specs.Ends.{IsWritten}
use Rattle.fg_top.specs.Outcome.{Close, Done, HasStats, Outcome, Refuses, last_text, run_close, source_of, text_of}

-- the refusal of words that give no job
abbrev pub words_refusal : JobFault → Refusal
words_refusal JobFault.Memory = Refusal.Memory
words_refusal (JobFault.Words fault) = Refusal.Words fault

-- the source of a program that has one is a vertex
abbrev pub IsSourced : Pick → ℕ → Type 0
IsSourced pick vertices = IfSome (source_of pick) (λ source. source < vertices)

-- what a run of these rules comes to behind its head
abbrev pub behind_head : Rules → Wish → Option Stats → Run → Outcome
behind_head rules wish stats run = record {
  lines = map (text_of wish.each rules.show) run.finished;
  close = run_close stats wish.quiet rules.show run.ending run.iterations run.states;
}

-- how a run may close behind its head where nothing is told of it: done with these stats, or refused for a bad edge
abbrev pub MayClose : Option Stats → Close → Type 0
MayClose stats (Done text) = HasStats stats text
MayClose stats (Refuses (Refusal.BadEdge bad)) = Unit {0}
MayClose stats (Refuses refusal) = ⊥

-- behind its head the run comes with these stats to this outcome, by what is told of it
abbrev pub RunComesTo : {A : Type 0} → Rules → Wish → Option Stats → Option A → (A → Run) → Outcome → Type 0
RunComesTo rules wish stats None run_of outcome = MayClose stats outcome.close
RunComesTo rules wish stats (Some told) run_of outcome = outcome ≡ behind_head rules wish stats (run_of told)

-- the last text of a run with an end
abbrev pub end_text : Option Stats → Bool → (VState → Value) → End → List ℕ
end_text stats quiet show end = last_text stats quiet show end.settled end.iterations end.states

-- nothing more was written, since a put failed
pub record IsGivenUp (output : Output) (status : ℕ) : Type 0 where
  pub faults : output.new_faults ≡ output.old_faults
  pub text : output.new_text ≡ output.old_text
  pub failed : status ≡ 4

-- what is written where a run has no end: the line of the fault's refusal
abbrev pub IsRunRefused : Output → RunFault → ℕ → Type 0
IsRunRefused output RunFault.Memory status = IsWritten output (Some Refusal.Memory) (refusal_line Refusal.Memory) status
IsRunRefused output (RunFault.Drive drive) status = IsWritten output (Some (Refusal.DriveFault drive)) (refusal_line (Refusal.DriveFault drive)) status
IsRunRefused output (RunFault.BadEdge bad) status = IsWritten output (Some (Refusal.BadEdge bad)) (refusal_line (Refusal.BadEdge bad)) status
IsRunRefused output RunFault.Watch status = IsGivenUp output status

-- what is written behind the iterations of a run: the last text, or the refusal of its fault
abbrev pub IsClosed : Option Stats → Bool → (VState → Value) → Output → Result End RunFault → ℕ → Type 0
IsClosed stats quiet show output (Ok end) status = IsWritten output None (end_text stats quiet show end) status
IsClosed stats quiet show output (Err fault) status = IsRunRefused output fault status

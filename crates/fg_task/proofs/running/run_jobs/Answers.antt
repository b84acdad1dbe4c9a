use Rattle.std.proofs.Common.{◌≡◌, List, get_or, refl, sym, ◌∙◌}
use Rattle.fg_base.specs.declared.plain.Dir.TheVariants.{Out}
use Rattle.fg_task.specs.declared.job.Job.{Job}
use Rattle.fg_task.specs.Jobs.{Work, bad_in}
use Rattle.fg_task.proofs.RunLaws.{can_run-step, has_run-none, has_run-one, has_run-step, one-few, one-room, same_bad}
use Rattle.fg_task.proofs.running.run_jobs.Goals as goal

abbrev no_job : Job
no_job = record { vertex = 0; dir = Out; carry = 0; segment = record { page = 0; from = 0; to = 0; place = 0 } }

pub loop-job-init : goal.loop-job-init
loop-job-init g c = record {
  run = has_run-none (g.F.SegmentRun.work c.args.function.now) c.args.bytes.now c.args.outbox.now (g.T.Tally.entries c.args.tally.now);
  runs = refl;
}

pub run-step-requires-clause-room : goal.run-step-requires-clause-room
run-step-requires-clause-room g c =
    let W : Work = g.F.SegmentRun.work c.args.function.now in
    let jobs : List Job = c.args.jobs.now in
    one-room W c.args.bytes.now (get_or jobs c.loop-job.job-index no_job) c.loop-job.outbox (g.T.Tally.entries c.loop-job.tally)
    (can_run-step W c.args.bytes.now jobs c.loop-job.job-index no_job c.loop-job-test.true c.args.outbox.now c.loop-job.outbox _ _ c.loop-job.bad c.loop-job.invariant.run c.requires)

pub run-step-requires-clause-counted : goal.run-step-requires-clause-counted
run-step-requires-clause-counted g c =
    let W : Work = g.F.SegmentRun.work c.args.function.now in
    let jobs : List Job = c.args.jobs.now in
    one-few W c.args.bytes.now (get_or jobs c.loop-job.job-index no_job) c.loop-job.outbox (g.T.Tally.entries c.loop-job.tally)
    (can_run-step W c.args.bytes.now jobs c.loop-job.job-index no_job c.loop-job-test.true c.args.outbox.now c.loop-job.outbox _ _ c.loop-job.bad c.loop-job.invariant.run c.requires)

pub loop-job-preserved : goal.loop-job-preserved
loop-job-preserved g c =
    let W : Work = g.F.SegmentRun.work c.args.function.now in
    let jobs : List Job = c.args.jobs.now in
    let job : Job = get_or jobs c.loop-job.job-index no_job in
    let is : c.bad.result ≡ bad_in W c.args.bytes.now job = same_bad c.bad.result (bad_in W c.args.bytes.now job) (sym c.bad.ensures ∙ c.run-step.ensures.bad) in
    record {
      run = has_run-step W c.args.bytes.now jobs c.loop-job.job-index no_job c.loop-job-test.true c.args.outbox.now c.loop-job.outbox _ _ c.loop-job.bad c.loop-job.invariant.run
          c.run-step.new.outbox (g.T.Tally.entries c.run-step.new.tally) (bad_in W c.args.bytes.now job) c.lesser-bad.result
          (has_run-one W c.args.bytes.now job c.loop-job.outbox c.run-step.new.outbox (g.T.Tally.entries c.loop-job.tally) (g.T.Tally.entries c.run-step.new.tally)
          c.run-step.ensures.sent c.run-step.ensures.room c.run-step.ensures.entries)
          (rw is at c.lesser-bad.ensures);
      runs = c.run-step.ensures.runs ∙ c.loop-job.invariant.runs;
    }

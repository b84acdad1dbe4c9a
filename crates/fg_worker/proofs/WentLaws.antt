-- The moments of a block, one after the other.
use Rattle.std.proofs.Common.{◌≡◌, ◌<◌, List, [], ◌++◌, subst, sym, ap, ◌∙◌, arith, append_assoc, append-nil, IsPermutation}
use Rattle.std.proofs.lemmas.List.{length-append}
use Rattle.std.proofs.lemmas.List.Elements.{All-append, All-nil}
use Rattle.std.proofs.lemmas.List.Sorted.{IsPermutation-refl, IsPermutation-append_right, IsPermutation-trans, sum_by-IsPermutation}
use Rattle.std.proofs.lemmas.List.Sums.{sum_by-append}
use Rattle.fg_batch.specs.Outbox.{Sending, Sends}
use Rattle.fg_batch.proofs.SentLaws.{sends-more}
use Rattle.fg_cache.specs.Site.{Site}
use Rattle.fg_model.specs.declared.mail.Mail.{Mail}
use Rattle.fg_part.specs.declared.part_map.PartMap.{PartMap}
use Rattle.fg_task.specs.declared.job.Job.{Job}
use Rattle.fg_task.specs.Jobs.{Work, entry_count}
use Rattle.fg_task.proofs.RunLaws.{sends-none}
use Rattle.fg_worker.specs.Visiting.{MayGoOn, Moment, WentOn, WereRun}

-- what was run, put together in another way, and with nothing more
were_run-along : (site : Site) (work : Work) (now : Moment) (jobs same_jobs : List Job) (mails same_mails : List Mail) → jobs ≡ same_jobs → mails ≡ same_mails
    → WereRun site work jobs mails now.least → WereRun site work same_jobs same_mails now.least
were_run-along site work now jobs same_jobs mails same_mails jobs_same mails_same ran =
    subst (λ (some : List Job). WereRun site work some same_mails now.least) jobs_same
    (subst (λ (sent : List Mail). WereRun site work jobs sent now.least) mails_same ran)

-- only room was made
pub went_on-room : (site : Site) (work : Work) (now : Moment) (outbox : Sending) → Sends now.outbox outbox [] → WentOn site work now (record now { outbox = outbox })
went_on-room site work now outbox sent = record {
  done = [];
  mails = [];
  parts = IsPermutation-refl now.jobs;
  sent = sent;
  counted = omega arith;
  few_sent = omega arith;
  to_vertices = All-nil (λ (mail : Mail). mail.target < work.n);
  were_run = λ before mails_before ran.
      were_run-along site work now before (before ++ []) mails_before (mails_before ++ []) (sym (append-nil before)) (sym (append-nil mails_before)) ran;
}

pub went_on-none : (site : Site) (work : Work) (now : Moment) → WentOn site work now now
went_on-none site work now = went_on-room site work now now.outbox (sends-none now.outbox)

pub went_on-more : (site : Site) (work : Work) (first next last : Moment) → WentOn site work first next → WentOn site work next last → WentOn site work first last
went_on-more site work first next last early late = record {
  done = early.done ++ late.done;
  mails = early.mails ++ late.mails;
  parts = subst (λ (all : List Job). IsPermutation all first.jobs) (sym (append_assoc early.done late.done last.jobs))
      (IsPermutation-trans (early.done ++ (late.done ++ last.jobs)) (early.done ++ next.jobs) first.jobs
      (IsPermutation-append_right early.done (late.done ++ last.jobs) next.jobs late.parts) early.parts);
  sent = sends-more first.outbox next.outbox last.outbox early.mails late.mails early.sent late.sent;
  counted = omega (arith, length-append early.mails late.mails, early.counted, late.counted);
  few_sent = omega (arith, length-append early.mails late.mails, sum_by-append (entry_count work) early.done late.done, early.few_sent, late.few_sent);
  to_vertices = All-append (λ (mail : Mail). mail.target < work.n) early.mails late.mails early.to_vertices late.to_vertices;
  were_run = λ before mails_before ran.
      were_run-along site work last ((before ++ early.done) ++ late.done) (before ++ (early.done ++ late.done)) ((mails_before ++ early.mails) ++ late.mails)
      (mails_before ++ (early.mails ++ late.mails)) (append_assoc before early.done late.done) (append_assoc mails_before early.mails late.mails)
      (late.were_run (before ++ early.done) (mails_before ++ early.mails) (early.were_run before mails_before ran));
}

-- what could go on still can
pub may_go_on-then : (site : Site) (work : Work) (old new : Moment) → MayGoOn work old → WentOn site work old new → MayGoOn work new
may_go_on-then site work old new may went = record {
  vertices = ap (λ (map : PartMap). map.n) went.sent.same_map ∙ may.vertices;
  few =
      let all = sum_by-IsPermutation (entry_count work) (went.done ++ new.jobs) old.jobs went.parts in
      let both = sum_by-append (entry_count work) went.done new.jobs in
      omega (arith, all, both, may.few, went.counted, went.few_sent);
}

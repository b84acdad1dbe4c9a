use Rattle.std.proofs.Common.{[], subst, sym}
use Rattle.fg_outside.specs.Drives.{LogsGrew, all_told}
use Rattle.fg_outside.proofs.DriveLemmas.{LogsGrew-same}
use Rattle.fg_words.specs.declared.jobs.Job.{Job}
use Rattle.fg_top.specs.Calls.{call_of, output_between}
use Rattle.fg_top.specs.JobPromises.{promise_of}
use Rattle.fg_top.specs.Keeping.{Keeps}
use Rattle.fg_top.proofs.FlashLemmas.{always, keeps_generated}
use Rattle.fg_top.proofs.still_jobs.still.Goals as goal

pub returns-in-Build : goal.returns-in-Build
returns-in-Build g c =
    let olds = c.args.drives.now.items in
    let made = c.build_job in
    let news = made.new.drives.items in
    let told = all_told g.D.Drive.held olds in
    let all = made.ensures in
    let P : Job → Type 0 = λ job. Keeps (promise_of job) (call_of g.D.Drive g.S.Source g.K.Sink olds news c.args.input.now made.new.input c.args.out.now made.new.out made.result) in
    let none = always told (LogsGrew g.D.Drive.log [] olds news) (LogsGrew-same g.D.Drive.log olds news all.reads) in
    record {
      kept = subst P (sym c.in-Build.is) (record {
        ends = all.ends;
        written = tt;
        drives = record { drives = all.drives; done = all.built; undone = λ refused. all.unbuilt refused.0 refused.1 refused.2; told = all.told; sure = all.sure };
        reads = record { reads = none; all_read = λ done. none; logs = all.reads };
        input = record {
          taken = all.input;
          unread = all.unread;
          stops = all.stops;
          ended = all.input_end;
          faults = all.input_faults;
          later = all.input_later;
        };
        meaning = λ done. always told (Unit {0}) tt;
      });
    }

pub returns-in-Gen : goal.returns-in-Gen
returns-in-Gen g c =
    let olds = c.args.drives.now.items in
    let made = c.gen_job in
    let input = c.args.input.now in
    let P : Job → Type 0 = λ job. Keeps (promise_of job) (call_of g.D.Drive g.S.Source g.K.Sink olds olds input input c.args.out.now made.new.out made.result) in
    let kept = subst P (sym c.in-Gen.is)
    (keeps_generated c.in-Gen.start c.in-Gen.nodes c.in-Gen.edges g.D.Drive olds (g.S.Source.left input) (g.S.Source.faults input)
    (output_between g.K.Sink c.args.out.now made.new.out) made.result made.ensures.ends made.ensures.written) in
    record { kept = kept }

use Rattle.std.proofs.Common.{◌≡◌, true, Some, Ok, Result, map, length, string_bytes, inl, subst, sym}
use Rattle.fg_base.specs.declared.refusal.Refusal.{Refusal}
use Rattle.fg_base.specs.declared.refusal.WordFault.{WordFault}
use Rattle.fg_engine.specs.Tallies.{RoseWithin, tally_between}
use Rattle.fg_outside.specs.Drives.{all_told}
use Rattle.fg_report.specs.Refusals.{refusal_line}
use Rattle.fg_words.specs.declared.jobs.Job.{Job}
use Rattle.fg_top.specs.declared.wish.Wish.{Wish}
use Rattle.fg_top.specs.Calls.{call_of, output_between}
use Rattle.fg_top.specs.Ends.{IsWritten}
use Rattle.fg_top.specs.JobPromises.{once_read, promise_by}
use Rattle.fg_words.specs.Jobs.{AreDrives, HasDrives, JobFits, is_still}
use Rattle.fg_top.specs.Keeping.{Keeps, KeepsTally}
use Rattle.fg_top.specs.LargeJob.{generated_graph, large_promise, recipe_for}
use Rattle.fg_top.specs.RunJob.{run_promise}
use Rattle.fg_top.specs.Statuses.{CameToEnd}
use Rattle.fg_top.specs.Tallies.{RoseByWish, begins_of}
use Rattle.fg_top.proofs.FlashLemmas.{always, drives_fit, keeps_large, stats_still, takes_none, tally_still}
use Rattle.fg_top.proofs.StatsLemmas.{ends_held}
use Rattle.fg_top.proofs.UnreadLemmas.{keeps_read, keeps_refused, stats_refused, tally_refused}
use Rattle.fg_top.proofs.flash.Goals as goal

pub returns-in-Err-clause-kept : goal.returns-in-Err-clause-kept
returns-in-Err-clause-kept g c =
    let output = output_between g.K.Sink c.args.out.now c.refuse.new.out in
    let Is : Refusal → Type 0 = λ refusal. IsWritten output (Some refusal) (refusal_line refusal) c.refuse.result in
    keeps_refused (map string_bytes c.args.words.now.items) c.in-Err.fault g.D.Drive c.args.drives.now.items (g.S.Source.left c.args.input.now) (g.S.Source.faults c.args.input.now)
    output c.refuse.result c.in-Err.ensures.job (subst Is c.refusal_of_words.ensures.refusal c.refuse.ensures)

pub returns-in-Err-clause-tally : goal.returns-in-Err-clause-tally
returns-in-Err-clause-tally g c =
    let output = output_between g.K.Sink c.args.out.now c.refuse.new.out in
    let now = c.args.tally.now in
    let Is : Refusal → Type 0 = λ refusal. IsWritten output (Some refusal) (refusal_line refusal) c.refuse.result in
    tally_refused g.row.D.Denot (map string_bytes c.args.words.now.items) c.in-Err.fault (all_told g.D.Drive.held c.args.drives.now.items)
    output (g.T.Tally.runs now) (g.T.Tally.entries now) c.refuse.result c.in-Err.ensures.job
    (subst Is c.refusal_of_words.ensures.refusal c.refuse.ensures)

pub returns-in_default-clause-tally : goal.returns-in_default-clause-tally
returns-in_default-clause-tally g c =
    let told = all_told g.D.Drive.held c.args.drives.now.items in
    let now = c.args.tally.now in
    let P : Result Job WordFault → Type 0 = λ given. KeepsTally (promise_by {D = g.row.D.Denot} given).of_tally told (tally_between g.T.Tally now now) c.still.result in
    let still : is_still c.in-Ok.job ≡ true = c.in_default.ensures in
    subst P (sym c.in-Ok.ensures.job) (tally_still g.row.D.Denot c.in-Ok.job told (g.T.Tally.runs now) (g.T.Tally.entries now) c.still.result still)

pub returns-in-Run-clause-kept : goal.returns-in-Run-clause-kept
returns-in-Run-clause-kept g c =
    let ran = c.run_job in
    let input = c.args.input.now in
    let all = ran.ensures in
    let call = call_of g.D.Drive g.S.Source g.K.Sink c.args.drives.now.items ran.new.drives.items input input c.args.out.now ran.new.out ran.result in
    let P : Result Job WordFault → Type 0 = λ given. Keeps (once_read (promise_by given)) call in
    let Q : Job → Type 0 = λ job. P (Ok job) in
    let W : Wish → Type 0 = λ wish. Keeps (once_read (run_promise c.in-Run.stats wish)) call in
    subst P (sym c.in-Ok.ensures.job) (subst Q (sym c.in-Run.is) (subst W c.new-wish.ensures (record {
      ends = ends_held c.in-Run.stats c.new-wish.result g.D.Drive c.args.drives.now.items ran.new.drives.items (output_between g.K.Sink c.args.out.now ran.new.out)
          (tally_between g.T.Tally c.args.tally.now ran.new.tally) ran.result all.ends;
      written = inl tt;
      drives = record { drives = all.drives; done = λ done. all.drives; undone = λ refused. all.drives; told = all.told; sure = all.sure };
      reads = record { reads = all.reads; all_read = all.all_read; logs = tt };
      input = takes_none (g.S.Source.left input) (g.S.Source.faults input) ran.result;
      meaning = all.means;
    })))

pub returns-in-Run-clause-tally : goal.returns-in-Run-clause-tally
returns-in-Run-clause-tally g c =
    let ran = c.run_job in
    let all = ran.ensures in
    let told = all_told g.D.Drive.held c.args.drives.now.items in
    let tally = tally_between g.T.Tally c.args.tally.now ran.new.tally in
    let P : Result Job WordFault → Type 0 = λ given. KeepsTally (promise_by {D = g.row.D.Denot} given).of_tally told tally ran.result in
    let Q : Job → Type 0 = λ job. P (Ok job) in
    let W : Wish → Type 0 = λ wish. KeepsTally (run_promise {D = g.row.D.Denot} c.in-Run.stats wish).of_tally told tally ran.result in
    subst P (sym c.in-Ok.ensures.job) (subst Q (sym c.in-Run.is) (subst W c.new-wish.ensures
    (record { risen = all.tally; went = all.tally_went; stood = all.tally_stands })))

pub returns-in-Large-clause-kept : goal.returns-in-Large-clause-kept
returns-in-Large-clause-kept g c =
    let ran = c.large_job in
    let olds = c.args.drives.now.items in
    let input = c.args.input.now in
    let large = c.in-Large in
    let recipe = recipe_for large.start large.nodes large.edges large.undirected in
    let call = call_of g.D.Drive g.S.Source g.K.Sink olds olds input input c.args.out.now ran.new.out ran.result in
    let P : Result Job WordFault → Type 0 = λ given. Keeps (once_read (promise_by given)) call in
    let Q : Job → Type 0 = λ job. P (Ok job) in
    let W : Wish → Type 0 = λ wish. Keeps (once_read (large_promise wish recipe)) call in
    subst P (sym c.in-Ok.ensures.job) (subst Q (sym large.is) (subst W c.new-wish-in-Large.ensures
    (keeps_read (large_promise c.new-wish-in-Large.result recipe) call
    (keeps_large c.new-wish-in-Large.result recipe g.D.Drive olds (g.S.Source.left input) (g.S.Source.faults input)
    (output_between g.K.Sink c.args.out.now ran.new.out) ran.result ran.ensures.ends ran.ensures.means))))

pub returns-in-Large-clause-tally : goal.returns-in-Large-clause-tally
returns-in-Large-clause-tally g c =
    let ran = c.large_job in
    let all = ran.ensures in
    let large = c.in-Large in
    let recipe = recipe_for large.start large.nodes large.edges large.undirected in
    let told = all_told g.D.Drive.held c.args.drives.now.items in
    let tally = tally_between g.T.Tally c.args.tally.now ran.new.tally in
    let P : Result Job WordFault → Type 0 = λ given. KeepsTally (promise_by {D = g.row.D.Denot} given).of_tally told tally ran.result in
    let Q : Job → Type 0 = λ job. P (Ok job) in
    let W : Wish → Type 0 = λ wish. KeepsTally (large_promise {D = g.row.D.Denot} wish recipe).of_tally told tally ran.result in
    let wish = c.new-wish-in-Large.result in
    let graph = generated_graph recipe in
    subst P (sym c.in-Ok.ensures.job) (subst Q (sym large.is) (subst W c.new-wish-in-Large.ensures (record {
      risen = λ done. always told (RoseByWish wish graph tally) (all.tally done);
      went = always told (RoseWithin (CameToEnd ran.result) (begins_of wish graph) tally) all.tally_went;
      stood = all.tally_stands;
    })))

pub returns-in-Err-clause-stats : goal.returns-in-Err-clause-stats
returns-in-Err-clause-stats g c =
    let output = output_between g.K.Sink c.args.out.now c.refuse.new.out in
    let Is : Refusal → Type 0 = λ refusal. IsWritten output (Some refusal) (refusal_line refusal) c.refuse.result in
    stats_refused (map string_bytes c.args.words.now.items) c.in-Err.fault g.D.Drive c.args.drives.now.items (g.S.Source.left c.args.input.now) (g.S.Source.faults c.args.input.now)
    output c.refuse.result (tally_between g.T.Tally c.args.tally.now c.args.tally.now) c.in-Err.ensures.job (subst Is c.refusal_of_words.ensures.refusal c.refuse.ensures)

pub returns-in_default-clause-stats : goal.returns-in_default-clause-stats
returns-in_default-clause-stats g c =
    let call = call_of g.D.Drive g.S.Source g.K.Sink c.args.drives.now.items c.still.new.drives.items c.args.input.now c.still.new.input c.args.out.now c.still.new.out c.still.result in
    let tally = tally_between g.T.Tally c.args.tally.now c.args.tally.now in
    let P : Result Job WordFault → Type 0 = λ given. (promise_by given).of_stats call tally in
    let still : is_still c.in-Ok.job ≡ true = c.in_default.ensures in
    subst P (sym c.in-Ok.ensures.job) (stats_still c.in-Ok.job call tally still)

pub returns-in-Run-clause-stats : goal.returns-in-Run-clause-stats
returns-in-Run-clause-stats g c =
    let ran = c.run_job in
    let input = c.args.input.now in
    let call = call_of g.D.Drive g.S.Source g.K.Sink c.args.drives.now.items ran.new.drives.items input input c.args.out.now ran.new.out ran.result in
    let tally = tally_between g.T.Tally c.args.tally.now ran.new.tally in
    let P : Result Job WordFault → Type 0 = λ given. (promise_by given).of_stats call tally in
    let Q : Job → Type 0 = λ job. P (Ok job) in
    let W : Wish → Type 0 = λ wish. (run_promise c.in-Run.stats wish).of_stats call tally in
    subst P (sym c.in-Ok.ensures.job) (subst Q (sym c.in-Run.is) (subst W c.new-wish.ensures ran.ensures.ends))

pub returns-in-Large-clause-stats : goal.returns-in-Large-clause-stats
returns-in-Large-clause-stats g c =
    let ran = c.large_job in
    let olds = c.args.drives.now.items in
    let input = c.args.input.now in
    let call = call_of g.D.Drive g.S.Source g.K.Sink olds olds input input c.args.out.now ran.new.out ran.result in
    let tally = tally_between g.T.Tally c.args.tally.now ran.new.tally in
    let P : Result Job WordFault → Type 0 = λ given. (promise_by given).of_stats call tally in
    let Q : Job → Type 0 = λ job. P (Ok job) in
    subst P (sym c.in-Ok.ensures.job) (subst Q (sym c.in-Large.is) tt)

pub still-requires-clause-fits : goal.still-requires-clause-fits
still-requires-clause-fits g c = c.in-Ok.ensures.fits

pub still-requires-clause-has_drives : goal.still-requires-clause-has_drives
still-requires-clause-has_drives g c =
    drives_fit c.args.drives.now.items (map string_bytes c.args.words.now.items) c.in-Ok.job c.requires.named c.in-Ok.ensures.drives

pub run_job-requires-clause-some : goal.run_job-requires-clause-some
run_job-requires-clause-some g c κs within =
    let P : Job → Type 0 = λ job. HasDrives job (length c.args.drives.now.items) in
    let has : AreDrives (length c.args.drives.now.items) =
    subst P c.in-Run.is (drives_fit c.args.drives.now.items (map string_bytes c.args.words.now.items) c.in-Ok.job c.requires.named c.in-Ok.ensures.drives) in
    has.0

pub run_job-requires-clause-few : goal.run_job-requires-clause-few
run_job-requires-clause-few g c κs within =
    let P : Job → Type 0 = λ job. HasDrives job (length c.args.drives.now.items) in
    let has : AreDrives (length c.args.drives.now.items) =
    subst P c.in-Run.is (drives_fit c.args.drives.now.items (map string_bytes c.args.words.now.items) c.in-Ok.job c.requires.named c.in-Ok.ensures.drives) in
    has.1

pub large_job-requires-clause-some_nodes : goal.large_job-requires-clause-some_nodes
large_job-requires-clause-some_nodes g c κs within = (subst JobFits c.in-Large.is c.in-Ok.ensures.fits).2.0

pub large_job-requires-clause-few_nodes : goal.large_job-requires-clause-few_nodes
large_job-requires-clause-few_nodes g c κs within = (subst JobFits c.in-Large.is c.in-Ok.ensures.fits).2.1

pub large_job-requires-clause-few_edges : goal.large_job-requires-clause-few_edges
large_job-requires-clause-few_edges g c κs within = (subst JobFits c.in-Large.is c.in-Ok.ensures.fits).2.2

pub large_job-requires-clause-some : goal.large_job-requires-clause-some
large_job-requires-clause-some g c κs within = (subst JobFits c.in-Large.is c.in-Ok.ensures.fits).3.0

pub large_job-requires-clause-few : goal.large_job-requires-clause-few
large_job-requires-clause-few g c κs within = (subst JobFits c.in-Large.is c.in-Ok.ensures.fits).3.1

pub large_job-requires-clause-some_unit : goal.large_job-requires-clause-some_unit
large_job-requires-clause-some_unit g c κs within = (subst JobFits c.in-Large.is c.in-Ok.ensures.fits).1.0

pub large_job-requires-clause-small_unit : goal.large_job-requires-clause-small_unit
large_job-requires-clause-small_unit g c κs within = (subst JobFits c.in-Large.is c.in-Ok.ensures.fits).1.1

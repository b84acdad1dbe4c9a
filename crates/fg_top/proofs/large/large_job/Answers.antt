use Rattle.std.proofs.Common.{refl, arith}
use Rattle.fg_build.specs.Layouts.{plan_of}
use Rattle.fg_build.proofs.BuiltLaws.{PlanFits}
use Rattle.fg_engine.specs.Tallies.{tally_between}
use Rattle.fg_outside.specs.contracts.room_drive.RoomDriveDrive.TheImpl.{held-value, room-value, faults-value}
use Rattle.fg_top.specs.Calls.{output_between}
use Rattle.fg_top.specs.Ends.{LeavesHeld}
use Rattle.fg_report.specs.Refusals.{refusal_line}
use Rattle.fg_text.specs.Generator.{generated_text}
use Rattle.fg_top.specs.LargeJob.{generated_graph}
use Rattle.fg_top.specs.Statuses.{CameToEnd}
use Rattle.fg_top.specs.Tallies.{begins_of}
use Rattle.fg_top.proofs.MadeEnds.{ends_generated, generating_not_graph, means_generated, none_fails, tally_generated, went_generated}
use Rattle.fg_top.proofs.MadeLaws.{open_to_edges}
use Rattle.fg_top.proofs.TallyLemmas.{graph_status, none_began}
use Rattle.fg_top.proofs.large.large_job.Goals as goal

pub returns-clause-ends : goal.returns-clause-ends
returns-clause-ends g c =
    let plan = plan_of c.args.count c.args.unit 0 in
    let fits : PlanFits plan = record { some_drives = c.requires.some; few_drives = c.requires.few; some_unit = c.requires.some_unit; small_unit = c.requires.small_unit; number_fits = omega arith } in
    ends_generated held-value.it faults-value.it plan c.args.recipe c.args.wish c.in-Ok.drives.items c.run_job.new.drives.items
    (LeavesHeld held-value.it c.in-Ok.drives.items c.run_job.new.drives.items) (output_between g.K.Sink c.args.out.now c.run_job.new.out) c.run_job.result
    (λ edges are. open_to_edges plan edges fits are)
    c.in-Ok.ensures.made (none_fails room-value.it faults-value.it c.in-Ok.drives.items c.run_job.new.drives.items (λ drive. refl) c.run_job.ensures.sure) c.run_job.ensures.ends.ends

pub returns-clause-tally : goal.returns-clause-tally
returns-clause-tally g c =
    let plan = plan_of c.args.count c.args.unit 0 in
    let fits : PlanFits plan = record { some_drives = c.requires.some; few_drives = c.requires.few; some_unit = c.requires.some_unit; small_unit = c.requires.small_unit; number_fits = omega arith } in
    λ zero. tally_generated held-value.it faults-value.it plan c.args.recipe c.args.wish c.in-Ok.drives.items
    (tally_between g.T.Tally c.args.tally.now c.run_job.new.tally)
    (λ edges are. open_to_edges plan edges fits are)
    c.in-Ok.ensures.made (c.run_job.ensures.tally zero)

pub returns-clause-means : goal.returns-clause-means
returns-clause-means g c =
    let plan = plan_of c.args.count c.args.unit 0 in
    let fits : PlanFits plan = record { some_drives = c.requires.some; few_drives = c.requires.few; some_unit = c.requires.some_unit; small_unit = c.requires.small_unit; number_fits = omega arith } in
    λ zero. means_generated held-value.it faults-value.it plan c.args.recipe c.args.wish c.in-Ok.drives.items
    (λ edges are. open_to_edges plan edges fits are)
    c.in-Ok.ensures.made (c.run_job.ensures.means zero)

pub returns-in-Err-clause-tally_went : goal.returns-in-Err-clause-tally_went
returns-in-Err-clause-tally_went g c =
    let refusal = c.in-Err.refusal in
    let output = output_between g.K.Sink c.args.out.now c.refuse.new.out in
    let all = begins_of c.args.wish (generated_graph c.args.recipe) in
    none_began (CameToEnd c.refuse.result) all (g.T.Tally.runs c.args.tally.now) (g.T.Tally.entries c.args.tally.now)
    (λ came. absurd (generating_not_graph c.args.recipe.undirected (generated_text c.args.recipe.start c.args.recipe.nodes c.args.recipe.edges) refusal c.in-Err.ensures.refused
    (graph_status output refusal (refusal_line refusal) c.refuse.result c.refuse.ensures came)))

pub returns-clause-tally_went : goal.returns-clause-tally_went
returns-clause-tally_went g c =
    let plan = plan_of c.args.count c.args.unit 0 in
    let fits : PlanFits plan = record { some_drives = c.requires.some; few_drives = c.requires.few; some_unit = c.requires.some_unit; small_unit = c.requires.small_unit; number_fits = omega arith } in
    went_generated held-value.it faults-value.it plan c.args.recipe c.args.wish c.in-Ok.drives.items (CameToEnd c.run_job.result)
    (tally_between g.T.Tally c.args.tally.now c.run_job.new.tally)
    (λ edges are. open_to_edges plan edges fits are)
    c.in-Ok.ensures.made c.run_job.ensures.tally_went

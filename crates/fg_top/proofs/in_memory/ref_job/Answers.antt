use Rattle.std.proofs.Common.{None}
use Rattle.fg_outside.specs.Drives.{all_told}
use Rattle.fg_report.specs.Refusals.{refusal_line}
use Rattle.fg_top.specs.Calls.{output_between}
use Rattle.fg_top.specs.Ends.{LeavesHeld}
use Rattle.fg_top.specs.Outcome.{run_in}
use Rattle.fg_top.proofs.BuildDrives.{held_status}
use Rattle.fg_top.proofs.JobLemmas.{ends_at_head, ends_in_memory_after_head}
use Rattle.fg_top.proofs.in_memory.ref_job.Goals as goal

pub returns-in-Err-write_head_of-clause-ends : goal.returns-in-Err-write_head_of-clause-ends
returns-in-Err-write_head_of-clause-ends g c =
    let loaded = c.in-Ok.loaded in
    ends_at_head g.D.Drive.faults c.args.drives.now.items c.load.new.drives.items c.args.wish None (all_told g.D.Drive.held c.args.drives.now.items) loaded.header (λ helds. run_in c.args.wish loaded.graph)
    (LeavesHeld g.D.Drive.held c.args.drives.now.items c.load.new.drives.items) (g.K.Sink.faults c.args.out.now) (g.K.Sink.faults c.write_head_of.new.out) (g.K.Sink.written c.args.out.now) (g.K.Sink.written c.write_head_of.new.out) (g.K.Sink.keeps_back c.write_head_of.new.out) c.status.result
    c.in-Ok.ensures.outcome c.in-Ok.ensures.kept c.load.ensures.held c.in-Err-write_head_of.ensures.counted.failed c.in-Err-write_head_of.ensures.part c.status.ensures

pub returns-clause-ends : goal.returns-clause-ends
returns-clause-ends g c =
    let loaded = c.in-Ok.loaded in
    ends_in_memory_after_head g.D.Drive.faults c.args.drives.now.items c.load.new.drives.items c.args.wish None (all_told g.D.Drive.held c.args.drives.now.items) loaded.header loaded.graph
    (LeavesHeld g.D.Drive.held c.args.drives.now.items c.load.new.drives.items) (g.K.Sink.faults c.args.out.now) (g.K.Sink.faults c.write_head_of.new.out) (g.K.Sink.faults c.run_picked.new.out)
    (g.K.Sink.written c.args.out.now) (g.K.Sink.written c.write_head_of.new.out) (g.K.Sink.written c.run_picked.new.out) (g.K.Sink.keeps_back c.run_picked.new.out) c.run_picked.result
    c.in-Ok.ensures.outcome c.in-Ok.ensures.kept (λ end. c.load.ensures.held) c.in_default.ensures.counted.kept c.in_default.ensures.whole c.run_picked.ensures.ends

pub returns-in-Err-clause-told : goal.returns-in-Err-clause-told
returns-in-Err-clause-told g c =
    let refusal = c.in-Err.refusal in
    let output = output_between g.K.Sink c.args.out.now c.refuse.new.out in
    λ seven.
    let of_drives = held_status output refusal (refusal_line refusal) c.refuse.result c.refuse.ensures seven in
    record { refusal = refusal; of_drives = of_drives; by_told = c.in-Err.ensures.told_err of_drives }

pub returns-clause-told : goal.returns-clause-told
returns-clause-told g c = λ seven. absurd (c.run_picked.ensures.began seven)

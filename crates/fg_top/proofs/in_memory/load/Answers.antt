use Rattle.std.proofs.Common.{None}
use Rattle.fg_outside.specs.Drives.{all_told}
use Rattle.fg_outside.proofs.DriveLemmas.{EachSame-more, RoomyKept-more, all_told-same}
use Rattle.fg_top.proofs.JobLemmas.{ref_reads_all, ref_reads_first, ref_reads_some, runs_loaded}
use Rattle.fg_top.proofs.OutcomeLemmas.{cause_of_reading, reading_not_held, reading_not_output}
use Rattle.fg_top.proofs.in_memory.load.Goals as goal

pub returns-in-Err-clause-cause : goal.returns-in-Err-clause-cause
returns-in-Err-clause-cause g c = c.in-Err.ensures.cause None

pub returns-in-Err-clause-reads : goal.returns-in-Err-clause-reads
returns-in-Err-clause-reads g c =
    ref_reads_first g.D.Drive.log c.args.wish (all_told g.D.Drive.held c.args.drives.now.items) c.args.drives.now.items c.open_sourced.new.drives.items c.in-Err.ensures.reads

pub returns-in-Ok-read_graph-clause-outcome : goal.returns-in-Ok-read_graph-clause-outcome
returns-in-Ok-read_graph-clause-outcome g c =
    let olds = c.args.drives.now.items in
    let betweens = c.open_sourced.new.drives.items in
    runs_loaded c.args.wish None (all_told g.D.Drive.held olds) (all_told g.D.Drive.held betweens) c.in-Ok.opened c.in-Ok-read_graph.graph
    (all_told-same g.D.Drive.held olds betweens c.in-Ok.ensures.held) c.in-Ok.ensures.opening c.in-Ok.ensures.sourced c.in-Ok-read_graph.ensures.graph

pub returns-in-Ok-read_graph-clause-kept : goal.returns-in-Ok-read_graph-clause-kept
returns-in-Ok-read_graph-clause-kept g c =
    EachSame-more g.D.Drive.faults c.args.drives.now.items c.open_sourced.new.drives.items c.read_graph.new.drives.items c.in-Ok.ensures.kept c.in-Ok-read_graph.ensures.counts

pub returns-in-Ok-read_graph-clause-reads : goal.returns-in-Ok-read_graph-clause-reads
returns-in-Ok-read_graph-clause-reads g c =
    ref_reads_some g.D.Drive.log c.args.wish (all_told g.D.Drive.held c.args.drives.now.items) c.in-Ok.opened c.args.drives.now.items c.open_sourced.new.drives.items c.read_graph.new.drives.items
    c.in-Ok.ensures.opening c.in-Ok.ensures.sourced c.in-Ok.ensures.all_read c.read_graph.ensures.reads

pub returns-in-Ok-read_graph-clause-all_read : goal.returns-in-Ok-read_graph-clause-all_read
returns-in-Ok-read_graph-clause-all_read g c =
    ref_reads_all g.D.Drive.log c.args.wish (all_told g.D.Drive.held c.args.drives.now.items) c.in-Ok.opened c.args.drives.now.items c.open_sourced.new.drives.items c.read_graph.new.drives.items
    c.in-Ok.ensures.opening c.in-Ok.ensures.sourced c.in-Ok.ensures.all_read c.in-Ok-read_graph.ensures.all_read

pub returns-in-Ok-read_graph-clause-held : goal.returns-in-Ok-read_graph-clause-held
returns-in-Ok-read_graph-clause-held g c =
    EachSame-more g.D.Drive.held c.args.drives.now.items c.open_sourced.new.drives.items c.read_graph.new.drives.items c.in-Ok.ensures.held c.read_graph.ensures.held

pub returns-in-Ok-read_graph-clause-sure : goal.returns-in-Ok-read_graph-clause-sure
returns-in-Ok-read_graph-clause-sure g c =
    RoomyKept-more g.D.Drive.room g.D.Drive.faults c.args.drives.now.items c.open_sourced.new.drives.items c.read_graph.new.drives.items c.in-Ok.ensures.room c.in-Ok.ensures.sure c.read_graph.ensures.sure

pub returns-clause-cause : goal.returns-clause-cause
returns-clause-cause g c =
    cause_of_reading g.D.Drive.faults c.args.drives.now.items c.open_sourced.new.drives.items c.read_graph.new.drives.items c.args.wish None
    (all_told g.D.Drive.held c.args.drives.now.items) c.in-Err-read_graph.refusal c.in-Ok.ensures.kept c.in-Err-read_graph.ensures.counts

pub returns-clause-not_output : goal.returns-clause-not_output
returns-clause-not_output g c =
    reading_not_output g.D.Drive.faults c.open_sourced.new.drives.items c.read_graph.new.drives.items c.in-Err-read_graph.refusal c.in-Err-read_graph.ensures.counts

pub returns-clause-reads : goal.returns-clause-reads
returns-clause-reads g c =
    ref_reads_some g.D.Drive.log c.args.wish (all_told g.D.Drive.held c.args.drives.now.items) c.in-Ok.opened c.args.drives.now.items c.open_sourced.new.drives.items c.read_graph.new.drives.items
    c.in-Ok.ensures.opening c.in-Ok.ensures.sourced c.in-Ok.ensures.all_read c.read_graph.ensures.reads

pub returns-clause-held : goal.returns-clause-held
returns-clause-held g c =
    EachSame-more g.D.Drive.held c.args.drives.now.items c.open_sourced.new.drives.items c.read_graph.new.drives.items c.in-Ok.ensures.held c.read_graph.ensures.held

pub returns-clause-sure : goal.returns-clause-sure
returns-clause-sure g c =
    RoomyKept-more g.D.Drive.room g.D.Drive.faults c.args.drives.now.items c.open_sourced.new.drives.items c.read_graph.new.drives.items c.in-Ok.ensures.room c.in-Ok.ensures.sure c.read_graph.ensures.sure

pub returns-clause-told_err : goal.returns-clause-told_err
returns-clause-told_err g c =
    λ seven. absurd (reading_not_held g.D.Drive.faults c.open_sourced.new.drives.items c.read_graph.new.drives.items c.in-Err-read_graph.refusal c.in-Err-read_graph.ensures.counts seven)

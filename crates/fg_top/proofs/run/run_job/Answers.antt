use Rattle.std.proofs.Common.{◌≡◌, IfSome, Some, List, subst, rules}
use Rattle.fg_base.specs.declared.refusal.Refusal.{Refusal}
use Rattle.fg_build.specs.OpeningReads.{opening_reads}
use Rattle.fg_engine.specs.Tallies.{tally_between}
use Rattle.fg_outside.specs.Drives.{EachSame, LogsGrew, NoneRose, RoomyKept, all_told}
use Rattle.fg_outside.proofs.DriveLemmas.{EachSame-more, RoomyKept-more, all_told-same}
use Rattle.fg_report.specs.Refusals.{refusal_line}
use Rattle.fg_top.specs.Calls.{output_between}
use Rattle.fg_top.specs.Outcome.{run_on}
use Rattle.fg_top.specs.Stats.{CountsCall, CountsRun, LeavesStats, asked}
use Rattle.fg_top.specs.Statuses.{CameToEnd}
use Rattle.fg_top.proofs.BuildDrives.{held_status}
use Rattle.fg_top.proofs.JobLemmas.{ends_after_head, ends_at_head, reads_all, reads_none, reads_of_all, tally_of}
use Rattle.fg_top.proofs.OutcomeLemmas.{runs_so}
use Rattle.fg_top.proofs.StatsLemmas.{counts_called, leaves_called, leaves_refused, no_stats}
use Rattle.fg_top.proofs.TallyLemmas.{went_given_up, went_of, went_refused}
use Rattle.fg_top.proofs.run.run_job.Goals as goal

pub returns-in-Err-clause-ends : goal.returns-in-Err-clause-ends
returns-in-Err-clause-ends g c =
    let olds = c.args.drives.now.items in
    let news = c.open_sourced.new.drives.items in
    let refusal = c.in-Err.refusal in
    let counts = CountsCall no_stats g.D.Drive olds news (tally_between g.T.Tally c.args.tally.now c.args.tally.now) in
    record {
      stats = no_stats;
      ends = record {
        end = Some refusal;
        text = refusal_line refusal;
        cause = c.in-Err.ensures.cause (asked c.args.stats no_stats);
        left = leaves_refused g.D.Drive.held olds news c.args.stats counts refusal c.open_sourced.ensures.held;
        written = c.refuse.ensures;
      };
    }

pub returns-in-Err-write_head_of-clause-ends : goal.returns-in-Err-write_head_of-clause-ends
returns-in-Err-write_head_of-clause-ends g c =
    let olds = c.args.drives.now.items in
    let news = c.open_sourced.new.drives.items in
    let told = all_told g.D.Drive.held olds in
    let stats = asked c.args.stats no_stats in
    let opened = c.in-Ok.opened in
    let counts = CountsCall no_stats g.D.Drive olds news (tally_between g.T.Tally c.args.tally.now c.args.tally.now) in
    let written = c.write_head_of.new.out in
    record {
      stats = no_stats;
      ends = ends_at_head g.D.Drive.faults olds news c.args.wish stats told opened.header (run_on c.args.wish opened)
          (LeavesStats g.D.Drive.held olds news c.args.stats counts)
          (g.K.Sink.faults c.args.out.now) (g.K.Sink.faults written) (g.K.Sink.written c.args.out.now) (g.K.Sink.written written) (g.K.Sink.keeps_back written) c.status.result
          (runs_so c.args.wish stats told opened c.in-Ok.ensures.opening c.in-Ok.ensures.sourced) c.in-Ok.ensures.kept
          (leaves_refused g.D.Drive.held olds news c.args.stats counts Refusal.Memory c.in-Ok.ensures.held) c.in-Err-write_head_of.ensures.counted.failed
          c.in-Err-write_head_of.ensures.part c.status.ensures;
    }

pub returns-clause-ends : goal.returns-clause-ends
returns-clause-ends g c =
    let olds = c.args.drives.now.items in
    let taken = c.replace-taken.result.items in
    let ran = c.run_picked-back in
    let back = ran.result.drives.items in
    let told = all_told g.D.Drive.held olds in
    let opened = c.in-Ok.opened in
    let stats = ran.ensures.stats in
    let tally = tally_between g.T.Tally c.args.tally.now ran.new.tally in
    let moved : c.open_sourced.new.drives.items ≡ taken = search rules in
    let Kept : List g.row.D.Denot → Type 0 = λ list. NoneRose g.D.Drive.faults olds list in
    let Held : List g.row.D.Denot → Type 0 = λ list. EachSame g.D.Drive.held olds list in
    let Read : List g.row.D.Denot → Type 0 = λ list. IfSome told (λ helds. LogsGrew g.D.Drive.log (opening_reads helds) olds list) in
    let same : EachSame g.D.Drive.held olds taken = subst Held moved c.in-Ok.ensures.held in
    let run_counts = CountsRun stats g.D.Drive.log taken back tally in
    let counts = CountsCall stats g.D.Drive olds back tally in
    record {
      stats = stats;
      ends = ends_after_head g.D.Drive.faults olds taken back c.args.wish (asked c.args.stats stats) told (all_told g.D.Drive.held taken) opened.header
          (run_on c.args.wish opened) (LeavesStats g.D.Drive.held taken back c.args.stats run_counts) (LeavesStats g.D.Drive.held olds back c.args.stats counts)
          (g.K.Sink.faults c.args.out.now) (g.K.Sink.faults c.write_head_of.new.out) (g.K.Sink.faults ran.new.out)
          (g.K.Sink.written c.args.out.now) (g.K.Sink.written c.write_head_of.new.out) (g.K.Sink.written ran.new.out) (g.K.Sink.keeps_back ran.new.out) ran.result.status
          (all_told-same g.D.Drive.held olds taken same)
          (runs_so c.args.wish (asked c.args.stats stats) told opened c.in-Ok.ensures.opening c.in-Ok.ensures.sourced) (subst Kept moved c.in-Ok.ensures.kept)
          (leaves_called g.D.Drive.held olds taken back c.args.stats run_counts counts same
          (counts_called stats g.D.Drive olds taken back tally (subst Read moved c.in-Ok.ensures.all_read)))
          c.in_default.ensures.counted.kept c.in_default.ensures.whole ran.ensures.ends;
    }

pub returns-clause-drives : goal.returns-clause-drives
returns-clause-drives g c =
    let olds = c.args.drives.now.items in
    let moved : c.open_sourced.new.drives.items ≡ c.replace-taken.result.items = search rules in
    let Held : List g.row.D.Denot → Type 0 = λ list. EachSame g.D.Drive.held olds list in
    EachSame-more g.D.Drive.held olds c.replace-taken.result.items c.run_picked-back.result.drives.items (subst Held moved c.in-Ok.ensures.held) c.run_picked-back.ensures.held

pub returns-clause-sure : goal.returns-clause-sure
returns-clause-sure g c =
    let olds = c.args.drives.now.items in
    let moved : c.open_sourced.new.drives.items ≡ c.replace-taken.result.items = search rules in
    let Room : List g.row.D.Denot → Type 0 = λ list. EachSame g.D.Drive.room olds list in
    let Sure : List g.row.D.Denot → Type 0 = λ list. RoomyKept g.D.Drive.room g.D.Drive.faults olds list in
    RoomyKept-more g.D.Drive.room g.D.Drive.faults olds c.replace-taken.result.items c.run_picked-back.result.drives.items (subst Room moved c.in-Ok.ensures.room)
    (subst Sure moved c.in-Ok.ensures.sure) c.run_picked-back.ensures.sure

pub returns-in-Err-write_head_of-clause-reads : goal.returns-in-Err-write_head_of-clause-reads
returns-in-Err-write_head_of-clause-reads g c =
    let told = all_told g.D.Drive.held c.args.drives.now.items in
    reads_of_all g.D.Drive.log c.args.wish told c.args.drives.now.items c.open_sourced.new.drives.items
    (reads_none g.D.Drive.log c.args.wish told c.in-Ok.opened c.args.drives.now.items c.open_sourced.new.drives.items c.in-Ok.ensures.opening c.in-Ok.ensures.all_read)

pub returns-clause-all_read : goal.returns-clause-all_read
returns-clause-all_read g c =
    let olds = c.args.drives.now.items in
    let taken = c.replace-taken.result.items in
    let told = all_told g.D.Drive.held olds in
    let moved : c.open_sourced.new.drives.items ≡ taken = search rules in
    let Held : List g.row.D.Denot → Type 0 = λ list. EachSame g.D.Drive.held olds list in
    let Read : List g.row.D.Denot → Type 0 = λ list. IfSome told (λ helds. LogsGrew g.D.Drive.log (opening_reads helds) olds list) in
    λ zero. reads_all g.D.Drive.log c.args.wish told (all_told g.D.Drive.held taken) c.in-Ok.opened olds taken c.run_picked-back.result.drives.items
    (all_told-same g.D.Drive.held olds taken (subst Held moved c.in-Ok.ensures.held)) c.in-Ok.ensures.opening (subst Read moved c.in-Ok.ensures.all_read) c.run_picked-back.ensures.reads

pub returns-clause-reads : goal.returns-clause-reads
returns-clause-reads g c =
    let olds = c.args.drives.now.items in
    let taken = c.replace-taken.result.items in
    let told = all_told g.D.Drive.held olds in
    let moved : c.open_sourced.new.drives.items ≡ taken = search rules in
    let Held : List g.row.D.Denot → Type 0 = λ list. EachSame g.D.Drive.held olds list in
    let Read : List g.row.D.Denot → Type 0 = λ list. IfSome told (λ helds. LogsGrew g.D.Drive.log (opening_reads helds) olds list) in
    reads_of_all g.D.Drive.log c.args.wish told olds c.run_picked-back.result.drives.items
    (reads_all g.D.Drive.log c.args.wish told (all_told g.D.Drive.held taken) c.in-Ok.opened olds taken c.run_picked-back.result.drives.items
    (all_told-same g.D.Drive.held olds taken (subst Held moved c.in-Ok.ensures.held)) c.in-Ok.ensures.opening (subst Read moved c.in-Ok.ensures.all_read) c.run_picked-back.ensures.reads)

pub returns-clause-tally : goal.returns-clause-tally
returns-clause-tally g c =
    let olds = c.args.drives.now.items in
    let taken = c.replace-taken.result.items in
    let moved : c.open_sourced.new.drives.items ≡ taken = search rules in
    let Held : List g.row.D.Denot → Type 0 = λ list. EachSame g.D.Drive.held olds list in
    let now = c.args.tally.now in
    let new = c.run_picked-back.new.tally in
    λ zero. tally_of c.args.wish (all_told g.D.Drive.held olds) (all_told g.D.Drive.held taken) c.in-Ok.opened
    (tally_between g.T.Tally now new)
    (all_told-same g.D.Drive.held olds taken (subst Held moved c.in-Ok.ensures.held)) c.in-Ok.ensures.opening (c.run_picked-back.ensures.tally zero)

pub returns-in-Err-clause-tally_went : goal.returns-in-Err-clause-tally_went
returns-in-Err-clause-tally_went g c =
    let refusal = c.in-Err.refusal in
    went_refused c.args.wish (all_told g.D.Drive.held c.args.drives.now.items) refusal
    (output_between g.K.Sink c.args.out.now c.refuse.new.out)
    (refusal_line refusal) c.refuse.result (g.T.Tally.runs c.args.tally.now) (g.T.Tally.entries c.args.tally.now) c.in-Err.ensures.unbegun c.refuse.ensures

pub returns-in-Err-write_head_of-clause-tally_went : goal.returns-in-Err-write_head_of-clause-tally_went
returns-in-Err-write_head_of-clause-tally_went g c =
    let now = c.args.tally.now in
    went_given_up c.args.wish (all_told g.D.Drive.held c.args.drives.now.items) c.status.result (g.T.Tally.runs now) (g.T.Tally.entries now) c.status.ensures

pub returns-clause-tally_went : goal.returns-clause-tally_went
returns-clause-tally_went g c =
    let olds = c.args.drives.now.items in
    let taken = c.replace-taken.result.items in
    let moved : c.open_sourced.new.drives.items ≡ taken = search rules in
    let Held : List g.row.D.Denot → Type 0 = λ list. EachSame g.D.Drive.held olds list in
    let now = c.args.tally.now in
    let new = c.run_picked-back.new.tally in
    went_of c.args.wish (all_told g.D.Drive.held olds) (all_told g.D.Drive.held taken) c.in-Ok.opened (CameToEnd c.run_picked-back.result.status)
    (tally_between g.T.Tally now new)
    (all_told-same g.D.Drive.held olds taken (subst Held moved c.in-Ok.ensures.held)) c.in-Ok.ensures.opening c.in-Ok.ensures.sourced c.run_picked-back.ensures.tally_went

pub returns-clause-tally_stands : goal.returns-clause-tally_stands
returns-clause-tally_stands g c = λ seven. absurd (c.run_picked-back.ensures.began seven)

pub returns-in-Err-clause-told : goal.returns-in-Err-clause-told
returns-in-Err-clause-told g c =
    let refusal = c.in-Err.refusal in
    let output = output_between g.K.Sink c.args.out.now c.refuse.new.out in
    λ seven.
    let of_drives = held_status output refusal (refusal_line refusal) c.refuse.result c.refuse.ensures seven in
    record { refusal = refusal; of_drives = of_drives; by_told = c.in-Err.ensures.told_err of_drives }

pub returns-clause-told : goal.returns-clause-told
returns-clause-told g c = λ seven. absurd (c.run_picked-back.ensures.began seven)

use Rattle.std.proofs.Common.{◌≡◌, ℕ, length, ap, arith, refl, rules, subst, inl, inr}
use Rattle.fg_outside.specs.Drives.{all_told}
use Rattle.fg_outside.proofs.DriveLemmas.{EachDrive-length, EachSame-more, all_told-length}
use Rattle.fg_report.specs.Refusals.{refusal_line}
use Rattle.fg_top.specs.BuildOutcome.{BuildComesTo, built_line}
use Rattle.fg_top.specs.Built.{BuildLeaves, MayBuild}
use Rattle.fg_top.specs.Calls.{input_between, output_between}
use Rattle.fg_top.specs.Ends.{EndsLeaving}
use Rattle.fg_top.specs.Outcome.{Outcome}
use Rattle.fg_top.proofs.BuildDrives.{building_not_held, building_not_text, built_as_written, built_whole, cause_of_building, held_status, kept_built, kept_unbuilt, leaves_held, leaves_refused, left_by, over, text_status, unbuilt_refused}
use Rattle.fg_top.proofs.BuildEnds.{comes_built}
use Rattle.fg_top.proofs.EndLemmas.{ends_done}
use Rattle.fg_top.proofs.JobLemmas.{ends_refused}
use Rattle.fg_top.proofs.building.build_job.Goals as goal

pub returns-in-Err-clause-ends : goal.returns-in-Err-clause-ends
returns-in-Err-clause-ends g c =
    let olds = c.args.drives.now.items in
    let news = c.gather.new.drives.items in
    let input = input_between g.S.Source c.args.input.now c.gather.new.input in
    let plan = over c.args.unit c.args.number olds in
    ends_refused g.D.Drive.faults olds news (BuildComesTo (length olds) c.args.undirected (all_told g.D.Drive.held olds) input)
    (BuildLeaves g.D.Drive.held g.D.Drive.faults plan c.args.undirected input olds news) c.in-Err.refusal
    (g.K.Sink.faults c.args.out.now) (g.K.Sink.faults c.refuse.new.out) (g.K.Sink.written c.args.out.now) (g.K.Sink.written c.refuse.new.out)
    (g.K.Sink.keeps_back c.refuse.new.out) c.refuse.result c.in-Err.ensures.cause
    (leaves_held g.D.Drive.held g.D.Drive.faults plan c.args.undirected input olds news c.in-Err.refusal (refusal_line c.in-Err.refusal) c.gather.ensures.held)
    c.refuse.ensures

pub returns-in-Err-clause-sure : goal.returns-in-Err-clause-sure
returns-in-Err-clause-sure g c =
    kept_unbuilt g.D.Drive.room g.D.Drive.faults (over c.args.unit c.args.number c.args.drives.now.items) c.args.undirected (g.S.Source.left c.args.input.now)
    c.args.drives.now.items c.gather.new.drives.items c.gather.ensures.sure

pub returns-in-Err-clause-unread : goal.returns-in-Err-clause-unread
returns-in-Err-clause-unread g c =
    let output = output_between g.K.Sink c.args.out.now c.refuse.new.out in
    λ is. c.in-Err.ensures.unread (held_status output c.in-Err.refusal (refusal_line c.in-Err.refusal) c.refuse.result c.refuse.ensures is)

pub build-requires-clause-some : goal.build-requires-clause-some
build-requires-clause-some g c =
    let same = EachDrive-length (λ old new. g.D.Drive.held new ≡ g.D.Drive.held old) c.args.drives.now.items c.gather.new.drives.items c.gather.ensures.held in
    omega (arith, same, c.requires.some)

pub build-requires-clause-few : goal.build-requires-clause-few
build-requires-clause-few g c =
    let same = EachDrive-length (λ old new. g.D.Drive.held new ≡ g.D.Drive.held old) c.args.drives.now.items c.gather.new.drives.items c.gather.ensures.held in
    omega (arith, same, c.requires.few)

pub returns-in-Err-build-clause-ends : goal.returns-in-Err-build-clause-ends
returns-in-Err-build-clause-ends g c =
    let olds = c.args.drives.now.items in
    let between = c.gather.new.drives.items in
    let news = c.build.new.drives.items in
    let told = all_told g.D.Drive.held olds in
    let input = input_between g.S.Source c.args.input.now c.gather.new.input in
    let refusal = c.in-Err-build.refusal in
    let may : MayBuild g.D.Drive.held c.args.undirected input olds c.in-Ok.edges =
    record { empty = c.in-Ok.ensures.empty; stood = c.in-Ok.ensures.input_kept; of_text = c.in-Ok.ensures.edges } in
    ends_refused g.D.Drive.faults olds news (BuildComesTo (length olds) c.args.undirected told input)
    (BuildLeaves g.D.Drive.held g.D.Drive.faults (over c.args.unit c.args.number olds) c.args.undirected input olds news) refusal
    (g.K.Sink.faults c.args.out.now) (g.K.Sink.faults c.refuse-in-Err-build.new.out) (g.K.Sink.written c.args.out.now) (g.K.Sink.written c.refuse-in-Err-build.new.out)
    (g.K.Sink.keeps_back c.refuse-in-Err-build.new.out) c.refuse-in-Err-build.result
    (cause_of_building g.D.Drive.faults (length olds) c.args.undirected told input refusal olds between news (all_told-length g.D.Drive.held olds) c.in-Ok.ensures.input_kept c.in-Ok.ensures.kept c.in-Err-build.ensures.counts)
    (leaves_refused g.D.Drive.held g.D.Drive.faults c.args.unit c.args.number c.args.undirected input c.in-Ok.edges refusal (refusal_line refusal) olds between news may
    c.gather.ensures.held c.in-Ok.ensures.kept c.in-Err-build.ensures.holds c.in-Err-build.ensures.counts)
    c.refuse-in-Err-build.ensures

pub returns-in-Err-build-clause-drives : goal.returns-in-Err-build-clause-drives
returns-in-Err-build-clause-drives g c =
    let olds = c.args.drives.now.items in
    let news = c.build.new.drives.items in
    let input = input_between g.S.Source c.args.input.now c.gather.new.input in
    let may : MayBuild g.D.Drive.held c.args.undirected input olds c.in-Ok.edges =
    record { empty = c.in-Ok.ensures.empty; stood = c.in-Ok.ensures.input_kept; of_text = c.in-Ok.ensures.edges } in
    left_by g.D.Drive.held g.D.Drive.faults (over c.args.unit c.args.number olds) c.args.undirected input olds news c.in-Err-build.refusal (refusal_line c.in-Err-build.refusal)
    (leaves_refused g.D.Drive.held g.D.Drive.faults c.args.unit c.args.number c.args.undirected input c.in-Ok.edges c.in-Err-build.refusal (refusal_line c.in-Err-build.refusal) olds c.gather.new.drives.items news may
    c.gather.ensures.held c.in-Ok.ensures.kept c.in-Err-build.ensures.holds c.in-Err-build.ensures.counts)

pub returns-in-Err-build-clause-unbuilt : goal.returns-in-Err-build-clause-unbuilt
returns-in-Err-build-clause-unbuilt g c =
    let between = c.gather.new.drives.items in
    λ not_zero not_four not_five.
    unbuilt_refused g.D.Drive.held g.D.Drive.faults (over c.args.unit c.args.number between) c.in-Ok.edges c.in-Err-build.refusal
    c.args.drives.now.items between c.build.new.drives.items
    (output_between g.K.Sink c.args.out.now c.refuse-in-Err-build.new.out)
    (refusal_line c.in-Err-build.refusal) c.refuse-in-Err-build.result c.gather.ensures.held c.in-Err-build.ensures.holds
    c.refuse-in-Err-build.ensures not_four not_five

pub returns-in-Err-build-clause-unread : goal.returns-in-Err-build-clause-unread
returns-in-Err-build-clause-unread g c =
    let output = output_between g.K.Sink c.args.out.now c.refuse-in-Err-build.new.out in
    let refusal = c.in-Err-build.refusal in
    λ is. absurd (building_not_held g.D.Drive.faults c.gather.new.drives.items c.build.new.drives.items refusal c.in-Err-build.ensures.counts
    (held_status output refusal (refusal_line refusal) c.refuse-in-Err-build.result c.refuse-in-Err-build.ensures is))

pub returns-in-Err-build-clause-sure : goal.returns-in-Err-build-clause-sure
returns-in-Err-build-clause-sure g c =
    kept_built g.D.Drive.room g.D.Drive.faults c.args.unit c.args.number c.args.undirected (g.S.Source.left c.args.input.now) c.in-Ok.edges
    c.args.drives.now.items c.gather.new.drives.items c.build.new.drives.items c.in-Ok.ensures.edges c.gather.ensures.room c.in-Ok.ensures.kept c.build.ensures.sure

pub returns-in-Err-build-clause-reads : goal.returns-in-Err-build-clause-reads
returns-in-Err-build-clause-reads g c =
    EachSame-more g.D.Drive.log c.args.drives.now.items c.gather.new.drives.items c.build.new.drives.items c.gather.ensures.log c.build.ensures.log

pub returns-in-Err-write_built-clause-ends : goal.returns-in-Err-write_built-clause-ends
returns-in-Err-write_built-clause-ends g c =
    let olds = c.args.drives.now.items in
    let news = c.build.new.drives.items in
    let input = input_between g.S.Source c.args.input.now c.gather.new.input in
    let comes : ℕ → Outcome → Type 0 = λ count. BuildComesTo count c.args.undirected (all_told g.D.Drive.held olds) input in
    let leaves = BuildLeaves g.D.Drive.held g.D.Drive.faults (over c.args.unit c.args.number olds) c.args.undirected input olds news in
    let output = output_between g.K.Sink c.args.out.now c.write_built.new.out in
    let count = c.len-count.result in
    let counted : count ≡ length olds = search rules in
    let may : MayBuild g.D.Drive.held c.args.undirected input olds c.in-Ok.edges =
    record { empty = c.in-Ok.ensures.empty; stood = c.in-Ok.ensures.input_kept; of_text = c.in-Ok.ensures.edges } in
    let line = built_line count c.in-Ok.edges in
    let written = built_as_written g.D.Drive.held g.D.Drive.faults c.args.unit c.args.number c.args.undirected input c.in-Ok.edges c.in-Ok-build.pages line olds c.gather.new.drives.items news may
    c.gather.ensures.held c.in-Ok.ensures.kept c.in-Ok-build.ensures.holds c.in-Ok-build.ensures.counts (ap (λ count. built_line count c.in-Ok.edges) counted) in
    let P : ℕ → Type 0 = λ count. EndsLeaving g.D.Drive.faults olds news (comes count) leaves output c.status.result in
    subst P counted (ends_done g.D.Drive.faults olds news (comes count) leaves line output c.status.result written.built.kept
    (comes_built g.D.Drive.held count c.args.undirected input olds c.in-Ok.edges may) written (inr (c.in-Err-write_built.ensures.counted.failed, c.in-Err-write_built.ensures.part, c.status.ensures)))

pub returns-in-Err-write_built-clause-drives : goal.returns-in-Err-write_built-clause-drives
returns-in-Err-write_built-clause-drives g c =
    let olds = c.args.drives.now.items in
    let input = input_between g.S.Source c.args.input.now c.gather.new.input in
    let may : MayBuild g.D.Drive.held c.args.undirected input olds c.in-Ok.edges =
    record { empty = c.in-Ok.ensures.empty; stood = c.in-Ok.ensures.input_kept; of_text = c.in-Ok.ensures.edges } in
    inr (inl (built_whole g.D.Drive.held g.D.Drive.faults c.args.unit c.args.number c.args.undirected input c.in-Ok.edges c.in-Ok-build.pages
    olds c.gather.new.drives.items c.build.new.drives.items may c.gather.ensures.held c.in-Ok.ensures.kept c.in-Ok-build.ensures.holds c.in-Ok-build.ensures.counts))

pub returns-in-Err-write_built-clause-sure : goal.returns-in-Err-write_built-clause-sure
returns-in-Err-write_built-clause-sure g c =
    kept_built g.D.Drive.room g.D.Drive.faults c.args.unit c.args.number c.args.undirected (g.S.Source.left c.args.input.now) c.in-Ok.edges
    c.args.drives.now.items c.gather.new.drives.items c.build.new.drives.items c.in-Ok.ensures.edges c.gather.ensures.room c.in-Ok.ensures.kept c.build.ensures.sure

pub returns-in-Err-write_built-clause-reads : goal.returns-in-Err-write_built-clause-reads
returns-in-Err-write_built-clause-reads g c =
    EachSame-more g.D.Drive.log c.args.drives.now.items c.gather.new.drives.items c.build.new.drives.items c.gather.ensures.log c.build.ensures.log

pub returns-clause-ends : goal.returns-clause-ends
returns-clause-ends g c =
    let olds = c.args.drives.now.items in
    let news = c.build.new.drives.items in
    let input = input_between g.S.Source c.args.input.now c.gather.new.input in
    let comes : ℕ → Outcome → Type 0 = λ count. BuildComesTo count c.args.undirected (all_told g.D.Drive.held olds) input in
    let leaves = BuildLeaves g.D.Drive.held g.D.Drive.faults (over c.args.unit c.args.number olds) c.args.undirected input olds news in
    let output = output_between g.K.Sink c.args.out.now c.write_built.new.out in
    let count = c.len-count.result in
    let counted : count ≡ length olds = search rules in
    let may : MayBuild g.D.Drive.held c.args.undirected input olds c.in-Ok.edges =
    record { empty = c.in-Ok.ensures.empty; stood = c.in-Ok.ensures.input_kept; of_text = c.in-Ok.ensures.edges } in
    let line = built_line count c.in-Ok.edges in
    let written = built_as_written g.D.Drive.held g.D.Drive.faults c.args.unit c.args.number c.args.undirected input c.in-Ok.edges c.in-Ok-build.pages line olds c.gather.new.drives.items news may
    c.gather.ensures.held c.in-Ok.ensures.kept c.in-Ok-build.ensures.holds c.in-Ok-build.ensures.counts (ap (λ count. built_line count c.in-Ok.edges) counted) in
    let P : ℕ → Type 0 = λ count. EndsLeaving g.D.Drive.faults olds news (comes count) leaves output 0 in
    subst P counted (ends_done g.D.Drive.faults olds news (comes count) leaves line output 0 written.built.kept
    (comes_built g.D.Drive.held count c.args.undirected input olds c.in-Ok.edges may) written (inl (c.in_default.ensures.counted.kept, c.in_default.ensures.whole, c.in_default.ensures.handed, refl)))

pub returns-clause-drives : goal.returns-clause-drives
returns-clause-drives g c =
    let olds = c.args.drives.now.items in
    let input = input_between g.S.Source c.args.input.now c.gather.new.input in
    let may : MayBuild g.D.Drive.held c.args.undirected input olds c.in-Ok.edges =
    record { empty = c.in-Ok.ensures.empty; stood = c.in-Ok.ensures.input_kept; of_text = c.in-Ok.ensures.edges } in
    inr (inl (built_whole g.D.Drive.held g.D.Drive.faults c.args.unit c.args.number c.args.undirected input c.in-Ok.edges c.in-Ok-build.pages
    olds c.gather.new.drives.items c.build.new.drives.items may c.gather.ensures.held c.in-Ok.ensures.kept c.in-Ok-build.ensures.holds c.in-Ok-build.ensures.counts))

pub returns-clause-built : goal.returns-clause-built
returns-clause-built g c =
    let olds = c.args.drives.now.items in
    let input = input_between g.S.Source c.args.input.now c.gather.new.input in
    let may : MayBuild g.D.Drive.held c.args.undirected input olds c.in-Ok.edges =
    record { empty = c.in-Ok.ensures.empty; stood = c.in-Ok.ensures.input_kept; of_text = c.in-Ok.ensures.edges } in
    λ zero. built_whole g.D.Drive.held g.D.Drive.faults c.args.unit c.args.number c.args.undirected input c.in-Ok.edges c.in-Ok-build.pages
    olds c.gather.new.drives.items c.build.new.drives.items may c.gather.ensures.held c.in-Ok.ensures.kept c.in-Ok-build.ensures.holds c.in-Ok-build.ensures.counts

pub returns-clause-sure : goal.returns-clause-sure
returns-clause-sure g c =
    kept_built g.D.Drive.room g.D.Drive.faults c.args.unit c.args.number c.args.undirected (g.S.Source.left c.args.input.now) c.in-Ok.edges
    c.args.drives.now.items c.gather.new.drives.items c.build.new.drives.items c.in-Ok.ensures.edges c.gather.ensures.room c.in-Ok.ensures.kept c.build.ensures.sure

pub returns-clause-reads : goal.returns-clause-reads
returns-clause-reads g c =
    EachSame-more g.D.Drive.log c.args.drives.now.items c.gather.new.drives.items c.build.new.drives.items c.gather.ensures.log c.build.ensures.log

pub returns-in-Err-clause-stops : goal.returns-in-Err-clause-stops
returns-in-Err-clause-stops g c =
    let output = output_between g.K.Sink c.args.out.now c.refuse.new.out in
    λ is.
    let of_text = text_status output c.in-Err.refusal (refusal_line c.in-Err.refusal) c.refuse.result c.refuse.ensures is in
    record { refusal = c.in-Err.refusal; of_text = of_text; stopped = c.in-Err.ensures.stops of_text }

pub returns-in-Err-build-clause-stops : goal.returns-in-Err-build-clause-stops
returns-in-Err-build-clause-stops g c =
    let output = output_between g.K.Sink c.args.out.now c.refuse-in-Err-build.new.out in
    let refusal = c.in-Err-build.refusal in
    λ is. absurd (building_not_text g.D.Drive.faults c.gather.new.drives.items c.build.new.drives.items refusal c.in-Err-build.ensures.counts
    (text_status output refusal (refusal_line refusal) c.refuse-in-Err-build.result c.refuse-in-Err-build.ensures is))

pub returns-in-Err-clause-told : goal.returns-in-Err-clause-told
returns-in-Err-clause-told g c =
    let output = output_between g.K.Sink c.args.out.now c.refuse.new.out in
    λ seven.
    let of_drives = held_status output c.in-Err.refusal (refusal_line c.in-Err.refusal) c.refuse.result c.refuse.ensures seven in
    record { refusal = c.in-Err.refusal; of_drives = of_drives; by_told = c.in-Err.ensures.told_err of_drives }

pub returns-in-Err-build-clause-told : goal.returns-in-Err-build-clause-told
returns-in-Err-build-clause-told g c =
    let output = output_between g.K.Sink c.args.out.now c.refuse-in-Err-build.new.out in
    let refusal = c.in-Err-build.refusal in
    λ seven. absurd (building_not_held g.D.Drive.faults c.gather.new.drives.items c.build.new.drives.items refusal c.in-Err-build.ensures.counts
    (held_status output refusal (refusal_line refusal) c.refuse-in-Err-build.result c.refuse-in-Err-build.ensures seven))

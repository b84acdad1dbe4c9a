use Rattle.std.proofs.Common.{◌≡◌, refl}
use Rattle.std.proofs.lemmas.Result.{IfErr-weaker}
use Rattle.fg_outside.specs.Drives.{all_told}
use Rattle.fg_outside.proofs.DriveLemmas.{all_told-length}
use Rattle.fg_top.proofs.BuildEnds.{cause_of_looking, cause_of_text, looking_not_text, text_not_held}
use Rattle.fg_top.specs.BuildOutcome.{BuildComesTo}
use Rattle.fg_top.specs.Calls.{input_between}
use Rattle.fg_top.specs.Ends.{IsCause}
use Rattle.fg_base.specs.Refusal.{status_of}
use Rattle.fg_report.specs.Refusals.{refusal_line}
use Rattle.fg_text.specs.Read.{ReadRefused}
use Rattle.std.specs.Prelude.{Err, length, Some}
use Rattle.fg_build.specs.PagesTold.{EmptyTold}
use Rattle.fg_top.proofs.building.gather.Goals as goal

pub returns-in-Err-clause-cause : goal.returns-in-Err-clause-cause
returns-in-Err-clause-cause g c =
    let olds = c.args.drives.now.items in
    cause_of_looking g.D.Drive.faults olds c.empty.new.drives.items c.args.undirected (all_told g.D.Drive.held olds)
    (input_between g.S.Source c.args.input.now c.args.input.now) c.in-Err.refusal (all_told-length g.D.Drive.held olds) refl c.in-Err.ensures.counts c.in-Err.ensures.says

pub returns-clause-cause : goal.returns-clause-cause
returns-clause-cause g c =
    let olds = c.args.drives.now.items in
    let news = c.empty.new.drives.items in
    let told = all_told g.D.Drive.held olds in
    let old = c.args.input.now in
    let new = c.read_edges.new.input in
    let left = g.S.Source.left old in
    let before = g.S.Source.faults old in
    let after = g.S.Source.faults new in
    IfErr-weaker c.read_edges.result (ReadRefused c.args.undirected left (g.S.Source.left new) before after)
    (λ refusal. IsCause g.D.Drive.faults olds news (BuildComesTo (length olds) c.args.undirected told (input_between g.S.Source old new)) (Some refusal) (refusal_line refusal))
    (λ refusal why. cause_of_text g.D.Drive.faults olds news (length olds) c.args.undirected told left (g.S.Source.left new) before after refusal
    (all_told-length g.D.Drive.held olds) c.in_default.ensures.counts c.in_default.ensures.says why)
    c.read_edges.ensures.refused

pub returns-clause-unread : goal.returns-clause-unread
returns-clause-unread g c =
    let old = c.args.input.now in
    let new = c.read_edges.new.input in
    let left = g.S.Source.left in
    let before = g.S.Source.faults old in
    let after = g.S.Source.faults new in
    IfErr-weaker c.read_edges.result (ReadRefused c.args.undirected (left old) (left new) before after)
    (λ refusal. status_of refusal ≡ 7 → left new ≡ left old)
    (λ refusal why is. absurd (text_not_held c.args.undirected (left old) (left new) before after refusal why is))
    c.read_edges.ensures.refused

pub returns-in-Err-clause-stops : goal.returns-in-Err-clause-stops
returns-in-Err-clause-stops g c = λ is. absurd (looking_not_text g.D.Drive.faults c.args.drives.now.items c.empty.new.drives.items c.in-Err.refusal c.in-Err.ensures.counts is)

pub returns-clause-stops : goal.returns-clause-stops
returns-clause-stops g c =
    let Refused = ReadRefused c.args.undirected (g.S.Source.left c.args.input.now) (g.S.Source.left c.read_edges.new.input) (g.S.Source.faults c.args.input.now) (g.S.Source.faults c.read_edges.new.input) in
    IfErr-weaker c.read_edges.result Refused (λ refusal. status_of refusal ≡ 6 → Refused refusal) (λ refusal why is. why) c.read_edges.ensures.refused

pub returns-clause-told_err : goal.returns-clause-told_err
returns-clause-told_err g c =
    let left = g.S.Source.left in
    let before = g.S.Source.faults c.args.input.now in
    let after = g.S.Source.faults c.read_edges.new.input in
    IfErr-weaker c.read_edges.result (ReadRefused c.args.undirected (left c.args.input.now) (left c.read_edges.new.input) before after)
    (λ refusal. status_of refusal ≡ 7 → EmptyTold g.D.Drive.told c.args.drives.now.items c.empty.new.drives.items (Err refusal))
    (λ refusal why is. absurd (text_not_held c.args.undirected (left c.args.input.now) (left c.read_edges.new.input) before after refusal why is))
    c.read_edges.ensures.refused

use Rattle.std.proofs.lemmas.Result.{IfErr-weaker}
use Rattle.fg_text.proofs.ReaderLemmas.{reads_skipped}
use Rattle.fg_text.proofs.RefusedLemmas.{broken_line, full_line, large_line, taken_edge}
use Rattle.fg_text.proofs.reader.Reader.end_line.Goals as goal

pub returns-in-Skipped-clause-ok : goal.returns-in-Skipped-clause-ok
returns-in-Skipped-clause-ok c = λ whole rest. rw c.begin_line.ensures (reads_skipped whole c.args.self.now rest c.in-Skipped.ensures.verdict)

pub returns-in-Broken-clause-refused : goal.returns-in-Broken-clause-refused
returns-in-Broken-clause-refused c = broken_line c.args.self.now c.in-Broken.ensures.verdict

pub returns-in-TooLarge-clause-refused : goal.returns-in-TooLarge-clause-refused
returns-in-TooLarge-clause-refused c = large_line c.args.self.now c.in-TooLarge.ensures.verdict

pub returns-in-Gives-clause-ok : goal.returns-in-Gives-clause-ok
returns-in-Gives-clause-ok c = taken_edge c.args.self.now c.take_edge.new.self c.in-Gives.edge c.take_edge.result c.in-Gives.ensures.verdict c.take_edge.ensures.ok c.take_edge.ensures.room

pub returns-in-Gives-clause-refused : goal.returns-in-Gives-clause-refused
returns-in-Gives-clause-refused c =
    IfErr-weaker c.take_edge.result _ _ (λ refusal full. full_line c.args.self.now c.in-Gives.edge refusal c.in-Gives.ensures.verdict full) c.take_edge.ensures.refused

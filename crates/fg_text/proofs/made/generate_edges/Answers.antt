use Rattle.std.proofs.Common.{◌∙◌}
use Rattle.std.proofs.lemmas.Result.{IfErr-weaker, IfOk-weaker}
use Rattle.fg_text.specs.Generator.{generated_text}
use Rattle.fg_text.proofs.MadeLemmas.{end_unrefused, made_read, made_refused}
use Rattle.fg_text.proofs.made.generate_edges.Goals as goal

pub returns-in-Err-clause-refused : goal.returns-in-Err-clause-refused
returns-in-Err-clause-refused c =
    let generator = c.new-generator.ensures in
    let refused = rw (c.begin_line.ensures, c.new-reader.ensures, generator.nodes, generator.state) at c.in-Err.ensures.refused in
    made_refused c.args.undirected c.args.start c.args.nodes c.args.edges c.in-Err.refusal c.ranges.start.fits c.requires.some c.requires.nodes c.requires.edges refused

pub returns-clause-read : goal.returns-clause-read
returns-clause-read c =
    let generator = c.new-generator.ensures in
    let reads = rw (c.begin_line.ensures, c.new-reader.ensures, generator.nodes, generator.state) at c.in_default.ensures.reads in
    IfOk-weaker c.finish.result _ _
    (λ made e. made_read c.args.undirected c.args.start c.args.nodes c.args.edges c.take_edges.new.reader c.ranges.start.fits c.requires.some c.requires.nodes c.requires.edges reads ∙ e)
    c.finish.ensures.ok

pub returns-clause-refused : goal.returns-clause-refused
returns-clause-refused c =
    IfErr-weaker c.finish.result _ _
    (λ refusal is. end_unrefused c.args.undirected (generated_text c.args.start c.args.nodes c.args.edges) c.take_edges.new.reader refusal c.in_default.ensures.line is)
    c.finish.ensures.refused

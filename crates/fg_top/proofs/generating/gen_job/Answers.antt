use Rattle.std.proofs.Common.{[], refl, inl, inr}
use Rattle.fg_top.specs.Calls.{output_between}
use Rattle.fg_top.specs.GenJob.{GenComesTo}
use Rattle.fg_text.specs.Generator.{generated_text}
use Rattle.fg_top.proofs.EndLemmas.{ends_done}
use Rattle.fg_top.proofs.generating.gen_job.Goals as goal

pub returns-in-Err-clause-ends : goal.returns-in-Err-clause-ends
returns-in-Err-clause-ends g c =
    ends_done (λ drive. drive) [] [] (GenComesTo c.args.start c.args.nodes c.args.edges) (λ end text. Unit {0}) (generated_text c.args.start c.args.nodes c.args.edges)
    (output_between g.K.Sink c.args.out.now c.write_generated.new.out)
    c.status.result tt refl tt (inr (c.in-Err.ensures.counted.failed, c.in-Err.ensures.part, c.status.ensures))

pub returns-clause-ends : goal.returns-clause-ends
returns-clause-ends g c =
    ends_done (λ drive. drive) [] [] (GenComesTo c.args.start c.args.nodes c.args.edges) (λ end text. Unit {0}) (generated_text c.args.start c.args.nodes c.args.edges)
    (output_between g.K.Sink c.args.out.now c.write_generated.new.out)
    0 tt refl tt (inl (c.in_default.ensures.counted.kept, c.in_default.ensures.whole, c.in_default.ensures.handed, refl))

use Rattle.std.proofs.Common.{ℕ, List, Option, ◌∙◌, ap, subst, sym}
use Rattle.fg_base.specs.Told.{grown, GrewByFirst}
use Rattle.fg_base.proofs.ToldLemmas.{grown-grown}
use Rattle.fg_base.proofs.GrowthLemmas.{grew_on, grew_before}
use Rattle.fg_text.specs.Generator.{edges_text, head_line, opening_state}
use Rattle.fg_text.proofs.GeneratorLemmas.{text_parts}
use Rattle.fg_text.proofs.written.generate.Goals as goal

pub returns-in_default-clause-part : goal.returns-in_default-clause-part
returns-in_default-clause-part g c =
    let old = g.K.Sink.written c.args.out.now in
    let new = g.K.Sink.written c.write_head.new.out in
    let head = head_line c.args.start c.args.nodes c.args.edges in
    let rest = edges_text c.args.nodes c.args.edges (opening_state c.args.start) in
    let P : List ℕ → Type 0 = λ text. GrewByFirst text old new in
    subst P (sym (text_parts c.args.start c.args.nodes c.args.edges)) (grew_before head rest old new c.in_default.ensures.part)

pub returns-in_default-write_edges-clause-part : goal.returns-in_default-write_edges-clause-part
returns-in_default-write_edges-clause-part g c =
    let old = g.K.Sink.written c.args.out.now in
    let new = g.K.Sink.written c.write_edges.new.out in
    let head = head_line c.args.start c.args.nodes c.args.edges in
    let rest = edges_text c.args.nodes c.args.edges (opening_state c.args.start) in
    let P : List ℕ → Type 0 = λ text. GrewByFirst text old new in
    let Q : Option (List ℕ) → Type 0 = λ told. GrewByFirst rest told new in
    let part = rw (c.new-generator.ensures.nodes, c.new-generator.ensures.state) at c.in_default-write_edges.ensures.part in
    subst P (sym (text_parts c.args.start c.args.nodes c.args.edges)) (grew_on head rest old new (subst Q c.in-Ok.ensures.whole part))

pub returns-clause-whole : goal.returns-clause-whole
returns-clause-whole g c =
    let old = g.K.Sink.written c.args.out.now in
    let head = head_line c.args.start c.args.nodes c.args.edges in
    let rest = edges_text c.args.nodes c.args.edges (opening_state c.args.start) in
    let whole = rw (c.new-generator.ensures.nodes, c.new-generator.ensures.state) at c.in-Ok-write_edges.ensures.whole in
    whole ∙ ap (λ told. grown told rest) c.in-Ok.ensures.whole ∙ grown-grown old head rest ∙ ap (grown old) (sym (text_parts c.args.start c.args.nodes c.args.edges))

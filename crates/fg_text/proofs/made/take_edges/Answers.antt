use Rattle.std.proofs.Common.{◌≡◌, ◌+◌, ◌-◌, ◌<◌, ◌++◌, ◌∙◌, ap, sym, arith}
use Rattle.std.proofs.lemmas.List.{append-nil, append_assoc}
use Rattle.fg_base.specs.declared.limits.TheConstants.{MAX_VERTICES}
use Rattle.fg_text.specs.declared.reader.Reader.{Reader}
use Rattle.fg_text.specs.declared.verdict.Edge.{Edge}
use Rattle.fg_text.specs.Generator.{edge_line, edges_text}
use Rattle.fg_text.specs.Reader.{reads_on}
use Rattle.fg_text.proofs.GeneratorLemmas.{next_lines, no_lines}
use Rattle.fg_text.proofs.MadeLemmas.{refused_behind, refused_line, taken_line}
use Rattle.fg_text.proofs.made.take_edges.Goals as goal

pub loop-turn-preserved : goal.loop-turn-preserved
loop-turn-preserved c =
    let before = c.loop-turn.invariant in
    let now = c.loop-turn.generator in
    let next = c.next_edge-edge in
    let taken = c.in_default.ensures in
    let done = before.3.0 in
    let line = edge_line next.result in
    let rest = edges_text next.new.self.nodes (c.args.count - (c.loop-turn._turn + 1)) next.new.self.words.state in
    let step : edges_text now.nodes (c.args.count - c.loop-turn._turn) now.words.state ≡ line ++ rest =
    next_lines now.nodes c.args.count c.loop-turn._turn now.words.state next.new.self.nodes next.new.self.words.state c.loop-turn-test.true next.ensures.nodes next.ensures.state
    ∙ ap (λ edge. edge_line edge ++ rest) (sym next.ensures.edge) in
    let plain = ap (λ (edge : Edge). edge.weight) next.ensures.edge in
    let source : next.result.source < MAX_VERTICES = omega (arith, next.ensures.source, before.2, c.requires.nodes) in
    let target : next.result.target < MAX_VERTICES = omega (arith, next.ensures.target, before.2, c.requires.nodes) in
    let number = ap (λ (reader : Reader). reader.number) taken.ok in (
      ap (λ (reader : Reader). reader.line) taken.ok,
      omega (arith, number, before.1),
      next.ensures.nodes ∙ before.2,
      (
        done ++ line,
        before.3.1 ∙ ap (λ text. done ++ text) step ∙ sym (append_assoc done line rest),
        λ whole rest.
            taken_line whole c.loop-turn.reader c.take_edge.new.self next.result rest before.0 plain source target taken.room taken.ok
            ∙ before.3.2 whole (line ++ rest) ∙ ap (reads_on whole c.args.reader.now) (sym (append_assoc done line rest)),
      ),
    )

pub returns-in-Err-clause-refused : goal.returns-in-Err-clause-refused
returns-in-Err-clause-refused c =
    let before = c.loop-turn.invariant in
    let now = c.loop-turn.generator in
    let next = c.next_edge-edge in
    let done = before.3.0 in
    let line = edge_line next.result in
    let rest = edges_text next.new.self.nodes (c.args.count - (c.loop-turn._turn + 1)) next.new.self.words.state in
    let step : edges_text now.nodes (c.args.count - c.loop-turn._turn) now.words.state ≡ line ++ rest =
    next_lines now.nodes c.args.count c.loop-turn._turn now.words.state next.new.self.nodes next.new.self.words.state c.loop-turn-test.true next.ensures.nodes next.ensures.state
    ∙ ap (λ edge. edge_line edge ++ rest) (sym next.ensures.edge) in
    let plain = ap (λ (edge : Edge). edge.weight) next.ensures.edge in
    let source : next.result.source < MAX_VERTICES = omega (arith, next.ensures.source, before.2, c.requires.nodes) in
    let target : next.result.target < MAX_VERTICES = omega (arith, next.ensures.target, before.2, c.requires.nodes) in
    let text = edges_text c.args.generator.now.nodes c.args.count c.args.generator.now.words.state in
    refused_behind c.args.reader.now c.loop-turn.reader text done (line ++ rest) c.in-Err.refusal (before.3.1 ∙ ap (λ text. done ++ text) step) before.3.2
    (refused_line c.loop-turn.reader next.result c.in-Err.refusal rest before.0 plain source target c.in-Err.ensures.refused)

pub returns-clause-reads : goal.returns-clause-reads
returns-clause-reads c = λ whole rest.
    let before = c.loop-turn.invariant in
    let now = c.loop-turn.generator in
    let done = before.3.0 in
    let none = no_lines now.nodes c.args.count c.loop-turn._turn now.words.state c.loop-turn-test.false in
    before.3.2 whole rest ∙ ap (λ text. reads_on whole c.args.reader.now (text ++ rest)) (sym (before.3.1 ∙ ap (λ text. done ++ text) none ∙ append-nil done))

use Rattle.std.proofs.Common.{ℕ, ◌+◌, ◌-◌, List, Option, [], ◌≡◌, ◌++◌, ◌∙◌, ap, refl, subst, sym, arith}
use Rattle.std.proofs.lemmas.List.{append-nil, append_assoc}
use Rattle.fg_base.specs.Told.{grown, GrewByFirst}
use Rattle.fg_base.proofs.ToldLemmas.{grown-nil, grown-grown}
use Rattle.fg_base.proofs.GrowthLemmas.{grew_on, grew_before}
use Rattle.fg_text.specs.Generator.{edge_line, edges_text}
use Rattle.fg_text.proofs.GeneratorLemmas.{all_lines, next_lines, no_lines}
use Rattle.fg_text.proofs.written.write_edges.Goals as goal

pub loop-turn-init : goal.loop-turn-init
loop-turn-init g c =
    let generator = c.args.generator.now in
    (refl, refl, ([], sym (grown-nil (g.K.Sink.written c.args.out.now)), all_lines generator.nodes c.args.count generator.words.state))

pub loop-turn-preserved : goal.loop-turn-preserved
loop-turn-preserved g c =
    let before = c.loop-turn.invariant in
    let now = c.loop-turn.generator in
    let next = c.next_edge-edge in
    let done = before.2.0 in
    let line = edge_line next.result in
    let rest = edges_text next.new.self.nodes (c.args.count - (c.loop-turn._turn + 1)) next.new.self.words.state in
    let step : edges_text now.nodes (c.args.count - c.loop-turn._turn) now.words.state ≡ line ++ rest =
    next_lines now.nodes c.args.count c.loop-turn._turn now.words.state next.new.self.nodes next.new.self.words.state c.loop-turn-test.true next.ensures.nodes next.ensures.state
    ∙ ap (λ edge. edge_line edge ++ rest) (sym next.ensures.edge) in (
      c.in_default.ensures.counted.kept ∙ before.0,
      next.ensures.nodes ∙ before.1,
      (
        done ++ line,
        c.in_default.ensures.whole ∙ ap (λ told. grown told line) before.2.1 ∙ grown-grown (g.K.Sink.written c.args.out.now) done line,
        before.2.2 ∙ ap (λ text. done ++ text) step ∙ sym (append_assoc done line rest),
      ),
    )

pub returns-in-Err-clause-part : goal.returns-in-Err-clause-part
returns-in-Err-clause-part g c =
    let before = c.loop-turn.invariant in
    let now = c.loop-turn.generator in
    let next = c.next_edge-edge in
    let done = before.2.0 in
    let line = edge_line next.result in
    let rest = edges_text next.new.self.nodes (c.args.count - (c.loop-turn._turn + 1)) next.new.self.words.state in
    let step : edges_text now.nodes (c.args.count - c.loop-turn._turn) now.words.state ≡ line ++ rest =
    next_lines now.nodes c.args.count c.loop-turn._turn now.words.state next.new.self.nodes next.new.self.words.state c.loop-turn-test.true next.ensures.nodes next.ensures.state
    ∙ ap (λ edge. edge_line edge ++ rest) (sym next.ensures.edge) in
    let old = g.K.Sink.written c.args.out.now in
    let new = g.K.Sink.written c.write_edge.new.out in
    let P : List ℕ → Type 0 = λ text. GrewByFirst text old new in
    let Q : Option (List ℕ) → Type 0 = λ told. GrewByFirst (line ++ rest) told new in
    subst P (sym (before.2.2 ∙ ap (λ text. done ++ text) step))
    (grew_on done (line ++ rest) old new (subst Q before.2.1 (grew_before line rest (g.K.Sink.written c.loop-turn.out) new c.in-Err.ensures.part)))

pub returns-clause-whole : goal.returns-clause-whole
returns-clause-whole g c =
    let before = c.loop-turn.invariant in
    let now = c.loop-turn.generator in
    let done = before.2.0 in
    let none = no_lines now.nodes c.args.count c.loop-turn._turn now.words.state (omega arith) in
    before.2.1 ∙ ap (grown (g.K.Sink.written c.args.out.now)) (sym (before.2.2 ∙ ap (λ text. done ++ text) none ∙ append-nil done))

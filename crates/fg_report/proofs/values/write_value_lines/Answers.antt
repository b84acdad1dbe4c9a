use Rattle.std.proofs.Common.{ℕ, ◌+◌, ◌<◌, List, Option, subst, ◌≡◌, ◌++◌, [], length, drop, refl, sym, ap, ◌∙◌, arith}
use Rattle.std.proofs.lemmas.List.{append-nil, append_assoc}
use Rattle.std.proofs.lemmas.Grind.{common_steps}
use Rattle.fg_base.specs.Told.{grown, GrewByFirst}
use Rattle.fg_base.proofs.ToldLemmas.{grown-nil, grown-grown}
use Rattle.fg_base.proofs.GrowthLemmas.{grew_on, grew_before}
use Rattle.fg_report.specs.Values.{value_line, value_lines_from}
use Rattle.fg_report.proofs.ValueLemmas.{next_line}
use Rattle.fg_report.proofs.values.write_value_lines.Goals as goal

pub loop-v-init : goal.loop-v-init
loop-v-init g c = (refl, ([], sym (grown-nil _), refl))

pub loop-v-preserved : goal.loop-v-preserved
loop-v-preserved g c =
    let show = (g.P.Program.rules c.args.program.now).show in
    let states = c.args.states.now in
    let v = c.loop-v.v in
    let done = c.loop-v.invariant.1.0 in
    let line = value_line v c.show.result in
    let below : v < length states = omega arith in
    let step : value_lines_from show v (drop v states) ≡ line ++ value_lines_from show (v + 1) (drop (v + 1) states)
    = next_line show v states _ below ∙ ap (λ value. value_line v value ++ value_lines_from show (v + 1) (drop (v + 1) states)) (sym c.show.ensures) in (
      c.in_default.ensures.counted.kept ∙ c.loop-v.invariant.0,
      (
        done ++ line,
        c.in_default.ensures.whole ∙ ap (λ told. grown told line) c.loop-v.invariant.1.1 ∙ grown-grown (g.K.Sink.written c.args.out.now) done line,
        c.loop-v.invariant.1.2 ∙ ap (λ rest. done ++ rest) step ∙ sym (append_assoc done line _),
      ),
    )

pub returns-in-Err-clause-part : goal.returns-in-Err-clause-part
returns-in-Err-clause-part g c =
    let show = (g.P.Program.rules c.args.program.now).show in
    let states = c.args.states.now in
    let v = c.loop-v.v in
    let done = c.loop-v.invariant.1.0 in
    let line = value_line v c.show.result in
    let rest = value_lines_from show (v + 1) (drop (v + 1) states) in
    let below : v < length states = omega arith in
    let step : value_lines_from show v (drop v states) ≡ line ++ rest
    = next_line show v states _ below ∙ ap (λ value. value_line v value ++ rest) (sym c.show.ensures) in
    let all : value_lines_from show 0 states ≡ done ++ (line ++ rest) = c.loop-v.invariant.1.2 ∙ ap (λ tail. done ++ tail) step in
    let P : List ℕ → Type 0 = λ whole. GrewByFirst whole (g.K.Sink.written c.args.out.now) (g.K.Sink.written c.write_value.new.out) in
    let Q : Option (List ℕ) → Type 0 = λ told. GrewByFirst (line ++ rest) told (g.K.Sink.written c.write_value.new.out) in
    subst P (sym all)
    (grew_on done (line ++ rest) (g.K.Sink.written c.args.out.now) (g.K.Sink.written c.write_value.new.out)
    (subst Q c.loop-v.invariant.1.1 (grew_before line rest (g.K.Sink.written c.loop-v.out) (g.K.Sink.written c.write_value.new.out) c.in-Err.ensures.part)))

pub returns-clause-whole : goal.returns-clause-whole
returns-clause-whole g c =
    let show = (g.P.Program.rules c.args.program.now).show in
    let done = c.loop-v.invariant.1.0 in
    let none : drop c.loop-v.v c.args.states.now ≡ [] = grind (arith, common_steps) in
    c.loop-v.invariant.1.1
    ∙ ap (grown (g.K.Sink.written c.args.out.now))
    (sym (append-nil done) ∙ ap (λ rest. done ++ value_lines_from show c.loop-v.v rest) (sym none) ∙ sym c.loop-v.invariant.1.2)

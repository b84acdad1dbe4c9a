use Rattle.std.proofs.Common.{◌<◌, length, ℕ, rules, subst, sym, ◌∙◌, refl}
use Rattle.fg_base.specs.contracts.plain.Need.{the_type}
use Rattle.fg_base.specs.declared.plain.Dir.TheVariants.{Out}
use Rattle.fg_worker.specs.Beginning.{AddsList}
use Rattle.fg_worker.specs.Desk.{Setting, setting_of}
use Rattle.fg_worker.proofs.BegunLaws.{lists-added}
use Rattle.fg_worker.proofs.adding.add_lists.Goals as goal
use Rattle.fg_worker.proofs.adding.add_lists.Goals.{then-ne+in_ok-add_list, else-ne}
use denote.Enum.Bare.{differs_false, differs_true}

pub returns-in_ok-add_list-2-clause-added : goal.returns-in_ok-add_list-2-clause-added
returns-in_ok-add_list-2-clause-added g c =
    let S : Setting = setting_of g.P.Program.rules c.args.desk.now in
    let below : c.args.v < length S.index.outs = subst (λ (n : ℕ). c.args.v < n) c.requires.desk.vertices c.requires.vertex in
    lists-added S c.args.v c.args.carry below c.args.book.now c.if-ne.book c.add_list-then-ne-2.new.book c.requires.desk.vertices c.requires.carry
    (λ other. elim c.if-ne.branch [
      | then-ne+in_ok-add_list w ↦ subst (AddsList S.layout S.index Out c.args.v c.args.carry c.args.book.now) (sym w.book-is) w.in_ok-add_list.ensures.added
      | else-ne w ↦ absurd (other (sym c.need-need.ensures ∙ differs_false the_type (search rules) _ _ (sym c.ne.ensures ∙ w.if-ne.false)))
    ])
    (λ is. elim c.if-ne.branch [
      | then-ne+in_ok-add_list w ↦ absurd (differs_true the_type _ _ (sym c.ne.ensures ∙ w.if-ne.true) (c.need-need.ensures ∙ is))
      | else-ne w ↦ w.book-is
    ])
    (λ other. c.in_ok-add_list-2.ensures.added)
    (λ is. absurd (differs_true the_type _ _ (sym c.ne-2.ensures ∙ c.if-ne-2.true) (c.need-need.ensures ∙ is)))

pub returns-else-ne-2-clause-added : goal.returns-else-ne-2-clause-added
returns-else-ne-2-clause-added g c =
    let S : Setting = setting_of g.P.Program.rules c.args.desk.now in
    let below : c.args.v < length S.index.outs = subst (λ (n : ℕ). c.args.v < n) c.requires.desk.vertices c.requires.vertex in
    lists-added S c.args.v c.args.carry below c.args.book.now c.if-ne.book c.if-ne.book c.requires.desk.vertices c.requires.carry
    (λ other. elim c.if-ne.branch [
      | then-ne+in_ok-add_list w ↦ subst (AddsList S.layout S.index Out c.args.v c.args.carry c.args.book.now) (sym w.book-is) w.in_ok-add_list.ensures.added
      | else-ne w ↦ absurd (other (sym c.need-need.ensures ∙ differs_false the_type (search rules) _ _ (sym c.ne.ensures ∙ w.if-ne.false)))
    ])
    (λ is. elim c.if-ne.branch [
      | then-ne+in_ok-add_list w ↦ absurd (differs_true the_type _ _ (sym c.ne.ensures ∙ w.if-ne.true) (c.need-need.ensures ∙ is))
      | else-ne w ↦ w.book-is
    ])
    (λ other. absurd (other (sym c.need-need.ensures ∙ differs_false the_type (search rules) _ _ (sym c.ne-2.ensures ∙ c.if-ne-2.false))))
    (λ is. refl)

use Rattle.std.proofs.Common.{[], ◌∷◌, sym, ap, ◌∙◌, subst, arith}
use Rattle.fg_books.specs.Shares.{IsHeld, holding_of}
use Rattle.fg_books.proofs.Held.{IsCut, table_from, cut_splits, rest_held, cut_held, is_cut}
use Rattle.fg_books.proofs.books.Books.cut.Goals as goal

pub split_as-other-requires : goal.split_as-other-requires
split_as-other-requires c = (
  (c.into_seat-seat.ensures.0 ∙ table_from _ c.lot.inside.badge.views _ c.lot.view_is _ (c.requires.own ∙ sym c.self.view_is), omega (arith, c.self.invariant)),
  cut_splits _ _ _ _
      (ap (holding_of c.lot.inside.badge.table_id) (sym c.into_seat-seat.ensures.2) ∙ c.lot.view_is) (c.requires.own ∙ sym c.self.view_is)
      (subst IsHeld c.into_seat-seat.ensures.2 c.lot.invariant) c.args.first c.args.count c.args.parts c.requires.parts c.requires.amounts _,
)

pub invariant_of-rest : goal.invariant_of-rest
invariant_of-rest c =
    rest_held _ _ _ _
    (ap (holding_of c.lot.inside.badge.table_id) (sym c.into_seat-seat.ensures.2) ∙ c.lot.view_is) (c.requires.own ∙ sym c.self.view_is)
    (subst IsHeld c.into_seat-seat.ensures.2 c.lot.invariant) c.args.first c.args.count c.args.parts c.requires.parts c.requires.amounts
    _ (c.into_badge.ensures.2 ∙ ap (λ me. me.0 ∷ []) c.split_as-other.ensures.kept.1) c.into_badge.result.table_id

pub invariant_of-cut : goal.invariant_of-cut
invariant_of-cut c =
    cut_held _ _ _ _
    (ap (holding_of c.lot.inside.badge.table_id) (sym c.into_seat-seat.ensures.2) ∙ c.lot.view_is) (c.requires.own ∙ sym c.self.view_is)
    (subst IsHeld c.into_seat-seat.ensures.2 c.lot.invariant) c.args.first c.args.count c.args.parts c.requires.parts c.requires.amounts
    _ (c.into_badge-2.ensures.2 ∙ ap (λ me. me.0 ∷ []) c.split_as-other.ensures.new.1) c.into_badge-2.result.table_id

halves : (c : goal.After-into_badge-2) → IsCut c.args.lot (holding_of c.into_badge.result.table_id c.into_badge.result.views)
    (holding_of c.into_badge-2.result.table_id c.into_badge-2.result.views) c.args.first c.args.count c.args.parts
halves c =
    is_cut _ _ _ _
    (ap (holding_of c.lot.inside.badge.table_id) (sym c.into_seat-seat.ensures.2) ∙ c.lot.view_is) (c.requires.own ∙ sym c.self.view_is)
    (subst IsHeld c.into_seat-seat.ensures.2 c.lot.invariant) c.args.first c.args.count c.args.parts c.requires.parts c.requires.amounts
    _ _ (c.into_badge.ensures.2 ∙ ap (λ me. me.0 ∷ []) c.split_as-other.ensures.kept.1) (c.into_badge-2.ensures.2 ∙ ap (λ me. me.0 ∷ []) c.split_as-other.ensures.new.1) _ _

pub returns-clause-cut : goal.returns-clause-cut
returns-clause-cut c = (halves c).cut

pub returns-clause-rest : goal.returns-clause-rest
returns-clause-rest c = (halves c).rest

pub returns-clause-no_others : goal.returns-clause-no_others
returns-clause-no_others c = (halves c).no_others

pub returns-clause-others : goal.returns-clause-others
returns-clause-others c = (halves c).others

pub returns-clause-no_amounts : goal.returns-clause-no_amounts
returns-clause-no_amounts c = (halves c).no_amounts

pub returns-clause-amounts : goal.returns-clause-amounts
returns-clause-amounts c = (halves c).amounts

use Rattle.std.proofs.Common.{◌≡◌, [], ◌∷◌, sym, ap, ◌∙◌, arith}
use Rattle.fg_books.specs.Shares.{account_of, holding_of}
use Rattle.fg_books.specs.Rules.{payer, payee}
use Rattle.fg_books.proofs.Held.{IsPaid, copy_is, copy_held, joined_copies, splits_of, pay_splits, from_held, to_held, is_paid}
use Rattle.fg_books.proofs.books.Books.pay.Goals as goal

pub split_as-other-requires : goal.split_as-other-requires
split_as-other-requires c = (
  (c.united-seat.ensures.own, omega (arith, c.self.invariant)),
  splits_of _ _ _ _ _ _ (joined_copies _ _ _ _ _ c.of.ensures c.of-2.ensures (ap (λ me. me.0) c.united-seat.ensures.joined))
      (pay_splits _ c.of.result.value.table_id c.of-2.result.value.table_id c.of.result.value.views c.of-2.result.value.views _ _
      (copy_is _ _ (c.of.ensures ∙ c.replace-one.ensures.value) _ c.from.view_is c.from.invariant) (copy_is _ _ (c.of-2.ensures ∙ c.replace-other.ensures.value) _ c.to.view_is c.to.invariant)
      (c.requires.own.0 ∙ sym c.self.view_is, c.requires.own.1 ∙ sym c.self.view_is)
      (copy_held _ _ (c.of.ensures ∙ c.replace-one.ensures.value) _ c.from.view_is c.from.invariant) (copy_held _ _ (c.of-2.ensures ∙ c.replace-other.ensures.value) _ c.to.view_is c.to.invariant)
      c.args.ledger c.args.by c.requires.from (rw (ap (λ b. b.plan) c.self.view_is) c.requires.to) _),
)

from_made : (c : goal.After-drop-about-2) → c.into_badge.result.views ≡ payer (account_of c.of.result.value.views) c.args.ledger c.args.by ∷ []
from_made c = c.into_badge.ensures.2 ∙ ap (λ me. me.0 ∷ []) c.split_as-other.ensures.kept.1

to_made : (c : goal.After-drop-about-2) → c.into_badge-2.result.views ≡ payee (account_of c.of-2.result.value.views) c.args.ledger c.args.by ∷ []
to_made c = c.into_badge-2.ensures.2 ∙ ap (λ me. me.0 ∷ []) c.split_as-other.ensures.new.1

pub invariant_of-from : goal.invariant_of-from
invariant_of-from c =
    from_held _ c.of.result.value.table_id c.of-2.result.value.table_id c.of.result.value.views c.of-2.result.value.views _ _
    (copy_is _ _ (c.of.ensures ∙ c.replace-one.ensures.value) _ c.from.view_is c.from.invariant) (copy_is _ _ (c.of-2.ensures ∙ c.replace-other.ensures.value) _ c.to.view_is c.to.invariant)
    (c.requires.own.0 ∙ sym c.self.view_is, c.requires.own.1 ∙ sym c.self.view_is)
    (copy_held _ _ (c.of.ensures ∙ c.replace-one.ensures.value) _ c.from.view_is c.from.invariant) (copy_held _ _ (c.of-2.ensures ∙ c.replace-other.ensures.value) _ c.to.view_is c.to.invariant)
    c.args.ledger c.args.by c.requires.from (rw (ap (λ b. b.plan) c.self.view_is) c.requires.to) _ (from_made c) c.into_badge.result.table_id

pub invariant_of-to : goal.invariant_of-to
invariant_of-to c =
    to_held _ c.of.result.value.table_id c.of-2.result.value.table_id c.of.result.value.views c.of-2.result.value.views _ _
    (copy_is _ _ (c.of.ensures ∙ c.replace-one.ensures.value) _ c.from.view_is c.from.invariant) (copy_is _ _ (c.of-2.ensures ∙ c.replace-other.ensures.value) _ c.to.view_is c.to.invariant)
    (c.requires.own.0 ∙ sym c.self.view_is, c.requires.own.1 ∙ sym c.self.view_is)
    (copy_held _ _ (c.of.ensures ∙ c.replace-one.ensures.value) _ c.from.view_is c.from.invariant) (copy_held _ _ (c.of-2.ensures ∙ c.replace-other.ensures.value) _ c.to.view_is c.to.invariant)
    c.args.ledger c.args.by c.requires.from (rw (ap (λ b. b.plan) c.self.view_is) c.requires.to) _ (to_made c) c.into_badge-2.result.table_id

paid : (c : goal.After-drop-about-2) → IsPaid c.args.from.now c.args.to.now (holding_of c.into_badge.result.table_id c.into_badge.result.views)
    (holding_of c.into_badge-2.result.table_id c.into_badge-2.result.views) c.args.ledger c.args.by
paid c =
    is_paid _ c.of.result.value.table_id c.of-2.result.value.table_id c.of.result.value.views c.of-2.result.value.views _ _
    (copy_is _ _ (c.of.ensures ∙ c.replace-one.ensures.value) _ c.from.view_is c.from.invariant) (copy_is _ _ (c.of-2.ensures ∙ c.replace-other.ensures.value) _ c.to.view_is c.to.invariant)
    (c.requires.own.0 ∙ sym c.self.view_is, c.requires.own.1 ∙ sym c.self.view_is)
    (copy_held _ _ (c.of.ensures ∙ c.replace-one.ensures.value) _ c.from.view_is c.from.invariant) (copy_held _ _ (c.of-2.ensures ∙ c.replace-other.ensures.value) _ c.to.view_is c.to.invariant)
    c.args.ledger c.args.by c.requires.from (rw (ap (λ b. b.plan) c.self.view_is) c.requires.to) _ _ (from_made c) (to_made c) _ _

pub returns-clause-lowered : goal.returns-clause-lowered
returns-clause-lowered c = (paid c).lowered

pub returns-clause-raised : goal.returns-clause-raised
returns-clause-raised c = (paid c).raised

pub returns-clause-from_others : goal.returns-clause-from_others
returns-clause-from_others c = (paid c).from_others

pub returns-clause-to_others : goal.returns-clause-to_others
returns-clause-to_others c = (paid c).to_others

pub returns-clause-from_parts : goal.returns-clause-from_parts
returns-clause-from_parts c = (paid c).from_parts

pub returns-clause-to_parts : goal.returns-clause-to_parts
returns-clause-to_parts c = (paid c).to_parts

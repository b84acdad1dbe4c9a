use Rattle.std.proofs.Common.{◌≡◌, ◌≤◌, sym, ap, ◌∙◌, subst, arith}
use lib.IntN.{pos, ◌+ℤ◌}
use lib.Signed.{◌≤ℤ◌}
use Rattle.atomic_table.specs.Table.{Me, step, Allows}
use mathlib.Core.Option.{none}
use Rattle.fg_books.specs.declared.account.Account.{Account}
use Rattle.fg_books.specs.Shares.{amount_of}
use Rattle.fg_books.specs.Rules.{Keeps, Tells, told}
use Rattle.fg_books.proofs.Keeping.{looks}
use Rattle.fg_books.proofs.Held.{copy_is, copy_held, own_plan, joined_copies, splits_of, back, sum_known}
use Rattle.fg_books.proofs.books.Books.known.Goals as goal

pub load-requires : goal.load-requires
load-requires c = (
  c.united-seat.ensures.own,
  omega (arith, c.self.invariant),
  subst
      (λ (m : Me (Unit {0}) Account). Allows {S = Unit {0}} (Keeps c.self.inside.table.shared.key) c.self.inside.table.shared.table_id.slots c.united-seat.result.id m 0 (λ n. n)
      (told (step c.self.inside.table.shared.table_id.slots 0 0 0 none) m))
      (sym c.united-seat.ensures.joined)
      (looks c.self.inside.table.shared.key c.self.inside.table.shared.table_id.slots c.united-seat.result.id _
      (own_plan _ _ c.replace-first.result.views _ (copy_is _ _ c.replace-first.ensures.value _ c.one.view_is c.one.invariant) (c.requires.own.0 ∙ sym c.self.view_is)
      (copy_held _ _ c.replace-first.ensures.value _ c.one.view_is c.one.invariant))),
)

pub split_as-second-requires : goal.split_as-second-requires
split_as-second-requires c = (
  (c.load.ensures.0 ∙ c.united-seat.ensures.own, omega (arith, c.self.invariant)),
  splits_of _ _ _ _ _ _ (ap (λ me. me.0) c.load.ensures.2.0 ∙ (joined_copies _ _ _ _ _ c.of.ensures c.of-2.ensures (ap (λ me. me.0) c.united-seat.ensures.joined)))
      (back _ c.of.result.value.table_id c.of-2.result.value.table_id c.of.result.value.views c.of-2.result.value.views _ _
      (copy_is _ _ (c.of.ensures ∙ c.replace-first.ensures.value) _ c.one.view_is c.one.invariant) (copy_is _ _ (c.of-2.ensures ∙ c.replace-second.ensures.value) _ c.other.view_is c.other.invariant)
      (c.requires.own.0 ∙ sym c.self.view_is, c.requires.own.1 ∙ sym c.self.view_is)
      (copy_held _ _ (c.of.ensures ∙ c.replace-first.ensures.value) _ c.one.view_is c.one.invariant) (copy_held _ _ (c.of-2.ensures ∙ c.replace-second.ensures.value) _ c.other.view_is c.other.invariant) _),
)

known : (c : goal.After-drop-about-2) → ((amount_of c.args.one.now c.args.ledger +ℤ amount_of c.args.other.now c.args.ledger) ≤ℤ pos 0)
    × (c.args.self.now.plan.loose ≤ c.args.ledger → amount_of c.args.one.now c.args.ledger +ℤ amount_of c.args.other.now c.args.ledger ≡ pos 0)
known c =
    sum_known _ c.of.result.value.table_id c.of-2.result.value.table_id c.of.result.value.views c.of-2.result.value.views _ _
    (copy_is _ _ (c.of.ensures ∙ c.replace-first.ensures.value) _ c.one.view_is c.one.invariant) (copy_is _ _ (c.of-2.ensures ∙ c.replace-second.ensures.value) _ c.other.view_is c.other.invariant)
    c.requires.own
    (copy_held _ _ (c.of.ensures ∙ c.replace-first.ensures.value) _ c.one.view_is c.one.invariant) (copy_held _ _ (c.of-2.ensures ∙ c.replace-second.ensures.value) _ c.other.view_is c.other.invariant)
    c.args.ledger c.requires.ledger c.requires.parts (subst Tells (joined_copies _ _ _ _ _ c.of.ensures c.of-2.ensures (ap (λ me. me.0) c.united-seat.ensures.joined)) c.load.ensures.2.1)

pub returns-clause-most : goal.returns-clause-most
returns-clause-most c = (known c).0

pub returns-clause-settled : goal.returns-clause-settled
returns-clause-settled c = (known c).1

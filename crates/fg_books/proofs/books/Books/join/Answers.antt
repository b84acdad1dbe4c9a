use Rattle.std.proofs.Common.{◌≡◌, [], ◌∷◌, ap, ◌∙◌}
use Rattle.fg_books.specs.Shares.{account_of}
use Rattle.fg_books.specs.Rules.{joined}
use Rattle.fg_books.proofs.Held.{both_held, both_parts, both_amounts}
use Rattle.fg_books.proofs.books.Books.join.Goals as goal

made : (c : goal.After-into_badge) → c.into_badge.result.views ≡ joined (account_of c.one.inside.badge.views) (account_of c.other.inside.badge.views) ∷ []
made c = c.into_badge.ensures.2 ∙ ap (λ me. me.0 ∷ []) c.united-seat.ensures.joined

pub invariant_of-result : goal.invariant_of-result
invariant_of-result c =
    both_held _ _ _ _ _ _ _ c.one.view_is c.other.view_is c.requires.own c.one.invariant c.other.invariant _ (made c) c.into_badge.result.table_id

pub returns-clause-parts : goal.returns-clause-parts
returns-clause-parts c =
    both_parts _ _ _ _ _ _ _ c.one.view_is c.other.view_is c.requires.own c.one.invariant c.other.invariant _ (made c) c.into_badge.result.table_id

pub returns-clause-amounts : goal.returns-clause-amounts
returns-clause-amounts c =
    both_amounts _ _ _ _ _ _ _ c.one.view_is c.other.view_is c.requires.own c.one.invariant c.other.invariant _ (made c) c.into_badge.result.table_id

use Rattle.std.proofs.Common.{◌≡◌, [], ◌∷◌, ap, ◌∙◌, refl}
use Rattle.fg_books.specs.Rules.{opening_of}
use Rattle.fg_books.proofs.Postings.{opens, opening_parts, opening_amount, opening_sound}
use Rattle.fg_books.proofs.Held.{held, parts_to, amounts_to}
use Rattle.fg_books.proofs.books.Books.new.Goals as goal

-- the first account of the books
made : (c : goal.After-into_badge) → c.into_badge.result.views ≡ opening_of record { ledgers = c.args.ledgers; parts = c.args.parts; loose = c.args.loose } ∷ []
made c = c.into_badge.ensures.2 ∙ ap (λ me. me.0 ∷ []) c.in_ok-table.ensures.4

pub of_words-requires : goal.of_words-requires
of_words-requires c = opens _

pub invariant_of-lot : goal.invariant_of-lot
invariant_of-lot c = held _ _ _ (made c) refl (opening_sound _)

pub returns-clause-parts : goal.returns-clause-parts
returns-clause-parts c k below =
    parts_to c.into_badge.result.table_id c.into_badge.result.views _ (made c) k
    ∙ opening_parts record { ledgers = c.args.ledgers; parts = c.args.parts; loose = c.args.loose } k below

pub returns-clause-amounts : goal.returns-clause-amounts
returns-clause-amounts c k =
    amounts_to c.into_badge.result.table_id c.into_badge.result.views _ (made c) k
    ∙ opening_amount record { ledgers = c.args.ledgers; parts = c.args.parts; loose = c.args.loose } k

-- The rule of the ledgers, and what a step changes.
use Rattle.std.specs.Prelude.{◌≡◌, ℕ, ◌<◌, ◌≤◌, List, [], ◌∷◌, ◌++◌, ℤ, pos, ◌+ℤ◌, ◌-ℤ◌, ◌≤ℤ◌}
use mathlib.Core.Option.{some}
use lib.ListN.{get_elem?}
use Rattle.atomic_table.specs.Seated.{TableId}
use Rattle.atomic_table.specs.Table.{State, Step, Me}
use Rattle.fg_books.specs.declared.account.Plan.{Plan}
use Rattle.fg_books.specs.declared.account.Posting.{Posting}
use Rattle.fg_books.specs.declared.account.Account.{Account}
use Rattle.fg_books.specs.Shares.{parts_in, amount_in, IsSound, no_plan}

abbrev pub total : {V : Type 0} → (V → ℤ) → List V → ℤ
total f [] = pos 0
total f (v ∷ vs) = f v +ℤ total f vs

-- Of each ledger: the amounts of all shares sum to 0, their parts are the ledger's, and each share is sound.
-- The accounts of dropped lots count as before.
pub record Balanced (plan : Plan) (views : List Account) : Type 0 where
  pub amounts : (k : ℕ) → total (λ (a : Account). amount_in a.postings k) views ≡ pos 0
  pub parts : (k : ℕ) → k < plan.ledgers → total (λ (a : Account). parts_in a.postings k) views ≡ pos plan.parts
  pub sound : (id : ℕ) (a : Account) → get_elem? views id ≡ some a → IsSound plan a.postings

abbrev pub Keeps : Plan → State (Unit {0}) Account → Type 0
Keeps plan s = Balanced plan s.views

-- a seat's table is this one, which has a word
abbrev pub IsOn : TableId → TableId → Type 0
IsOn table own = (own ≡ table) × (0 < table.words)

abbrev pub posting : ℕ → ℕ → ℤ → ℤ → Posting
posting first count parts amount = record { first = first; count = count; parts = parts; amount = amount }

abbrev pub account : Plan → List Posting → Account
account plan ps = record { plan = plan; postings = ps }

-- the first lot has all parts of each ledger
abbrev pub opening_of : Plan → Account
opening_of plan = account plan (posting 0 plan.ledgers (pos plan.parts) (pos 0) ∷ [])

abbrev pub spent : Account
spent = account no_plan []

abbrev pub joined : Account → Account → Account
joined v w = account v.plan (v.postings ++ w.postings)

-- an account with one more posting
abbrev pub posted : Account → Posting → Account
posted v p = account v.plan (v.postings ++ p ∷ [])

abbrev pub cut_left : Account → ℕ → ℕ → ℕ → Account
cut_left v first count parts = posted v (posting first count (pos 0 -ℤ pos parts) (pos 0))

abbrev pub cut_right : Account → ℕ → ℕ → ℕ → Account
cut_right v first count parts = account v.plan (posting first count (pos parts) (pos 0) ∷ [])

abbrev pub payer : Account → ℕ → ℕ → Account
payer v ledger by = posted v (posting ledger 1 (pos 0) (pos 0 -ℤ pos by))

abbrev pub payee : Account → ℕ → ℕ → Account
payee v ledger by = posted v (posting ledger 1 (pos 0) (pos by))

-- what is known of an account with all parts of a ledger
abbrev pub Tells : Account → Type 0
Tells v = (k : ℕ) → k < v.plan.ledgers → parts_in v.postings k ≡ pos v.plan.parts
    → (amount_in v.postings k ≤ℤ pos 0) × (v.plan.loose ≤ k → amount_in v.postings k ≡ pos 0)

abbrev pub told : Step (Unit {0}) → Me (Unit {0}) Account → ℕ → Me (Unit {0}) Account → Type 0
told st m found m' = (m' ≡ m) × Tells m.0

-- What a lot has of each ledger.
use Rattle.std.specs.Prelude.{◌≡◌, ℕ, ◌+◌, ◌≤◌, ◌&&◌, Bool, if◌then◌else◌, List, [], ◌∷◌, ℤ, pos, negsuc, ◌+ℤ◌, ◌≤ℤ◌, nat_le, nat_lt}
use Rattle.atomic_table.specs.Seated.{TableId}
use Rattle.fg_books.specs.declared.account.Plan.{Plan}
use Rattle.fg_books.specs.declared.account.Posting.{Posting}
use Rattle.fg_books.specs.declared.account.Account.{Account}

-- which books they are: what no other books have, and their plan
pub record BooksId : Type 0 where
  pub table : TableId
  pub plan : Plan

-- the books of a lot, and the postings that make its shares
pub record Holding : Type 0 where
  pub books : BooksId
  pub postings : List Posting

abbrev pub reaches : Posting → ℕ → Bool
reaches p k = nat_le p.first k && nat_lt k (p.first + p.count)

-- what the postings to the ledger k add up to
abbrev pub sum_in : (Posting → ℤ) → List Posting → ℕ → ℤ
sum_in f [] k = pos 0
sum_in f (p ∷ ps) k = (if reaches p k then f p else pos 0) +ℤ sum_in f ps k

abbrev pub parts_in : List Posting → ℕ → ℤ
parts_in ps k = sum_in (λ p. p.parts) ps k

abbrev pub amount_in : List Posting → ℕ → ℤ
amount_in ps k = sum_in (λ p. p.amount) ps k

-- a share has no negative parts; without a part its amount is at least 0, and it is 0 where the ledger isn't open
pub record IsSoundShare (plan : Plan) (k : ℕ) (parts amount : ℤ) : Type 0 where
  pub some_or_none : pos 0 ≤ℤ parts
  pub owes_nothing : parts ≡ pos 0 → pos 0 ≤ℤ amount
  pub owns_nothing : parts ≡ pos 0 → plan.loose ≤ k → amount ≡ pos 0

abbrev pub IsSound : Plan → List Posting → Type 0
IsSound plan ps = (k : ℕ) → IsSoundShare plan k (parts_in ps k) (amount_in ps k)

-- a lot stands for one account, which is sound
abbrev pub IsHeld : List Account → Type 0
IsHeld views = (a : Account) × (views ≡ a ∷ []) × IsSound a.plan a.postings

abbrev pub no_plan : Plan
no_plan = record { ledgers = 0; parts = 0; loose = 0 }

-- the one account
abbrev pub account_of : List Account → Account
account_of [] = record { plan = no_plan; postings = [] }
account_of (a ∷ rest) = a

abbrev pub holding_of : TableId → List Account → Holding
holding_of t views = record { books = record { table = t; plan = (account_of views).plan }; postings = (account_of views).postings }

abbrev pub magnitude : ℤ → ℕ
magnitude (pos n) = n
magnitude (negsuc n) = 0

-- the parts of a lot's share of the ledger k, and its amount
unfoldable pub parts_of : Holding → ℕ → ℕ
parts_of h k = magnitude (parts_in h.postings k)

unfoldable pub amount_of : Holding → ℕ → ℤ
amount_of h k = amount_in h.postings k

-- a value for types that ask for one; no books have it
abbrev pub some_books : BooksId
some_books = record {
  table = record { words = 0; slots = 0; views_name = 0; atom = 0; block = 0; offset = 0; slot_names = [] };
  plan = no_plan;
}

-- What a share has of the four running ledgers.
use Rattle.std.specs.Prelude.{◌≡◌, ℕ, ◌+◌, ◌≤◌, ℤ, pos, ◌+ℤ◌}
use Rattle.fg_books.specs.Shares.{BooksId, Holding, parts_of, amount_of}

-- A share of each of the four running ledgers: of which books, with how many parts, and the four amounts. They count the loads
-- pushed, the pages taken, the loads begun in an entry, and the repairs of a listing.
pub record Four : Type 0 where
  pub books : BooksId
  pub parts : ℕ
  pub pushes : ℤ
  pub takes : ℤ
  pub entries : ℤ
  pub repairs : ℤ

-- the running ledgers are numbered behind the drives' fault ledgers, which are open
abbrev pub running : Holding → ℕ
running lot = lot.books.plan.loose

abbrev pub four_of : Holding → Four
four_of lot = record {
  books = lot.books;
  parts = parts_of lot (running lot);
  pushes = amount_of lot (running lot);
  takes = amount_of lot (running lot + 1);
  entries = amount_of lot (running lot + 2);
  repairs = amount_of lot (running lot + 3);
}

-- the lot has equally many parts of the four
pub record IsEven (lot : Holding) : Type 0 where
  pub takes : parts_of lot (running lot + 1) ≡ parts_of lot (running lot)
  pub entries : parts_of lot (running lot + 2) ≡ parts_of lot (running lot)
  pub repairs : parts_of lot (running lot + 3) ≡ parts_of lot (running lot)

-- so many parts, and no amount
abbrev pub idle : BooksId → ℕ → Four
idle books parts = record { books = books; parts = parts; pushes = pos 0; takes = pos 0; entries = pos 0; repairs = pos 0 }

-- two shares as one
abbrev pub joined : Four → Four → Four
joined one other = record {
  books = one.books;
  parts = one.parts + other.parts;
  pushes = one.pushes +ℤ other.pushes;
  takes = one.takes +ℤ other.takes;
  entries = one.entries +ℤ other.entries;
  repairs = one.repairs +ℤ other.repairs;
}

-- the books have one ledger of faults for each drive, and behind them the four
pub record IsRunning (books : BooksId) (first parts : ℕ) : Type 0 where
  pub behind : first ≡ books.plan.loose
  pub four : books.plan.ledgers ≡ books.plan.loose + 4
  pub whole : parts ≡ books.plan.parts
  pub few : first ≤ 16

-- A pass and the pin that it becomes, as contracts see them.
use Rattle.std.specs.Prelude.{◌≡◌, ℕ, ◌+◌, ◌<◌, List, Option, pos, ◌+ℤ◌, ◌-ℤ◌}
use Rattle.fg_books.specs.Shares.{BooksId}
use Rattle.fg_cache.specs.Share.{Four}
use Rattle.fg_cache.specs.Site.{Site, frames_of}
use Rattle.fg_cache.specs.declared.counts.Counts.{Counts}

-- The cache's books, the worker's number, and how often `want` answered this pass `Queued`, `Stale` and `Hit`.
pub record Token : Type 0 where
  pub books : BooksId
  pub worker : ℕ
  pub queued : ℕ
  pub stale : ℕ
  pub hits : ℕ

abbrev pub token_of : BooksId → ℕ → Counts → Token
token_of books worker counts = record { books = books; worker = worker; queued = counts.queued; stale = counts.stale; hits = counts.hits }

-- what a pass has of the ledgers: it owes what it had queued, and what it found stale
abbrev pub share_of : Token → Four
share_of token = record {
  books = token.books;
  parts = 1;
  pushes = pos 0 -ℤ pos token.queued;
  takes = pos 0;
  entries = pos 0;
  repairs = pos 0 -ℤ pos token.stale;
}

-- the same with an entry in hand, where a load begins
abbrev pub with_entry : Four → Four
with_entry share = record share { entries = share.entries +ℤ pos 1 }

-- a pass that was asked nothing yet
abbrev pub new_token : BooksId → ℕ → Token
new_token books worker = record { books = books; worker = worker; queued = 0; stale = 0; hits = 0 }

-- the pass after an answer `Queued`, `Stale` or `Hit`
abbrev pub one_queued : Token → Token
one_queued token = record token { queued = token.queued + 1 }

abbrev pub one_stale : Token → Token
one_stale token = record token { stale = token.stale + 1 }

abbrev pub one_hit : Token → Token
one_hit token = record token { hits = token.hits + 1 }

-- a pass of this cache
pub record IsPassOf (site : Site) (token : Token) : Type 0 where
  pub own : token.books ≡ site.books
  pub worker_within : token.worker < site.shape.passes

-- the pass that is pinned, the page and its frame, and the bytes of each page of the image, where they are told
pub record Pinned : Type 0 where
  pub pass : Token
  pub page : ℕ
  pub frame : ℕ
  pub image : Option (List (List ℕ))

-- a pin of this cache
pub record IsPinOf (site : Site) (pin : Pinned) : Type 0 where
  pub own : IsPassOf site pin.pass
  pub frame_within : pin.frame < frames_of site
  pub same_image : pin.image ≡ site.image

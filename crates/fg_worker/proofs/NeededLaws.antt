-- The pages of an image as its bytes have them, and how many of them are needed.
use Rattle.std.proofs.Common.{◌≡◌, ℕ, zero, suc, ◌+◌, ◌-◌, ◌*◌, ◌<◌, ◌≤◌, Bool, true, false, List, [], ◌∷◌, ◌++◌, length, get_or, max, min, take, drop, refl, sym, ap, ap₂, ◌∙◌, arith, take_at, drop_at}
use Rattle.std.specs.Prelude.{All, filter}
use Rattle.std.specs.List.{Contains, flat_map, list_any, range_with_len}
use Rattle.std.proofs.lemmas.Bool.{ltb-true}
use Rattle.std.proofs.lemmas.List.{drop-drop, drop_all, take_all}
use Rattle.std.proofs.lemmas.List.Elements.{All-head, All-tail, Contains-get_or}
use Rattle.std.proofs.lemmas.List.FromFn.{get_or-range_with_len, length-range_with_len}
use Rattle.fg_base.specs.declared.plain.BadEdge.{BadEdge}
use Rattle.fg_base.specs.declared.plain.Dir.{Dir}
use Rattle.fg_base.specs.declared.plain.Need.{Need}
use Rattle.fg_cache.proofs.CountLemmas.{Apart, filter_contains, no_more_than}
use Rattle.fg_image.specs.Lists.{begin_of, end_of}
use Rattle.fg_image.specs.Needed.{HoldsSome, IsNeededBySome, dirs_of}
use Rattle.fg_index.specs.ImageIndex.{ImageIndex}
use Rattle.fg_model.specs.declared.mail.Mail.{Mail}
use Rattle.fg_stripe.specs.declared.layout.Layout.{Layout}
use Rattle.fg_stripe.specs.Held.{page_of}
use Rattle.fg_task.specs.declared.job.Job.{Job}
use Rattle.fg_task.specs.Jobs.{Work, edges_in, messages_in}
use Rattle.fg_worker.specs.Jobs.{edges_by, mails_by}
use Rattle.fg_worker.specs.Visiting.{told_page}
use Rattle.fg_worker.specs.Visits.{holds_some, is_needed_for, needed_pages}
use Rattle.fg_worker.proofs.ListLaws.{Contains-first, Contains-later}

abbrev bytes_in : List (List ℕ) → List ℕ
bytes_in pages = flat_map (λ page. page) pages

page-behind : (first rest : List ℕ) (page : ℕ) → length first ≡ 4096 → page_of (first ++ rest) (suc page) ≡ page_of rest page
page-behind first rest page whole =
    let place : suc page * 4096 ≡ 4096 + page * 4096 = omega arith in
    ap (take 4096) (ap (λ (n : ℕ). drop n (first ++ rest)) place ∙ sym (drop-drop (page * 4096) 4096 (first ++ rest)) ∙ ap (drop (page * 4096)) (drop_at first rest 4096 whole))

-- a page of whole pages' bytes is that page
pub page-told : (pages : List (List ℕ)) (page : ℕ) → All (λ one. length one ≡ 4096) pages → page_of (bytes_in pages) page ≡ told_page pages page
page-told [] page whole = ap (take 4096) (drop_all (page * 4096) [] (omega arith)) ∙ take_all 4096 [] (omega arith)
page-told (first ∷ pages) zero whole = take_at first (bytes_in pages) 4096 (All-head (λ one. length one ≡ 4096) first pages whole)
page-told (first ∷ pages) (suc page) whole =
    page-behind first (bytes_in pages) page (All-head (λ one. length one ≡ 4096) first pages whole)
    ∙ page-told pages page (All-tail (λ one. length one ≡ 4096) first pages whole)

module _ (work : Work) (pages : List (List ℕ)) (whole : All (λ one. length one ≡ 4096) pages) where
  pub mails-told : (jobs : List Job) → mails_by work (page_of (bytes_in pages)) jobs ≡ mails_by work (told_page pages) jobs
  unfolding mails_by
  mails-told [] = refl
  mails-told (job ∷ jobs) =
      ap₂ (λ (first rest : List Mail). first ++ rest) (ap (λ (bytes : List ℕ). messages_in work bytes job) (page-told pages job.segment.page whole)) (mails-told jobs)

  pub edges-told : (jobs : List Job) → edges_by work (page_of (bytes_in pages)) jobs ≡ edges_by work (told_page pages) jobs
  unfolding edges_by
  edges-told [] = refl
  edges-told (job ∷ jobs) =
      ap₂ (λ (first rest : List BadEdge). first ++ rest) (ap (λ (bytes : List ℕ). edges_in work bytes job) (page-told pages job.segment.page whole)) (edges-told jobs)

-- numbers in a range
pub in_range : (from count one : ℕ) → Contains (range_with_len from count) one → (from ≤ one) × (one < from + count)
in_range from count one found =
    let below : found.0 < count = omega (arith, found.1, length-range_with_len from count) in
    let read = get_or-range_with_len from count found.0 one below in
    (omega (arith, read, found.2), omega (arith, read, found.2, below))

pub stands_in : (from count one : ℕ) → from ≤ one → one < from + count → Contains (range_with_len from count) one
stands_in from count one above below =
    let place : from + (one - from) ≡ one = omega (arith, above) in
    (one - from, omega (arith, above, below, length-range_with_len from count), get_or-range_with_len from count (one - from) one (omega (arith, above, below)) ∙ place)

apart-range : (test : ℕ → Bool) (from count : ℕ) → Apart (filter test (range_with_len from count))
apart-range test from zero = tt
apart-range test from (suc count) = by_test (test from) refl (apart-range test (from + 1) count)
  where
    by_test : (keeps : Bool) → test from ≡ keeps → Apart (filter test (range_with_len (from + 1) count)) → Apart (filter test (range_with_len from (suc count)))
    by_test true is rest =
        rw is (
          (λ has.
              let within = in_range (from + 1) count from (filter_contains test (range_with_len (from + 1) count) from has).0 in
              omega (arith, within.0)),
          rest,
        )
    by_test false is rest = rw is rest

-- one of a list passes the test
record OneOf {X : Type 0} (p : X → Bool) (xs : List X) : Type 0 where
  one : X
  among : Contains xs one
  passes : p one ≡ true

any-one : {X : Type 0} (p : X → Bool) (xs : List X) → list_any p xs ≡ true → OneOf p xs
any-one p [] is = absurd (cc)
any-one {X} p (x ∷ xs) is = by_test (p x) refl is (any-one p xs)
  where
    by_test : (test : Bool) → p x ≡ test → list_any p (x ∷ xs) ≡ true → (list_any p xs ≡ true → OneOf p xs) → OneOf p (x ∷ xs)
    by_test true test is rest = record { one = x; among = Contains-first x xs x refl; passes = test }
    by_test false test is rest =
        let found = rest (rw test at is) in
        record { one = found.one; among = Contains-later x xs found.one found.among; passes = found.passes }

holds-is : (begin end page : ℕ) → holds_some begin end page ≡ true → HoldsSome begin end page
holds-is begin end page is =
    let below : max begin (page * 4096) < min end (page * 4096 + 4096) = ltb-true (max begin (page * 4096)) (min end (page * 4096 + 4096)) is in
    record {
      byte = max begin (page * 4096);
      from_begin = omega arith;
      to_end = omega (arith, below);
      is_page = omega (arith, below);
    }

module _ (layout : Layout) (index : ImageIndex) (need : Need) (vertices : List ℕ) where
  pub needed-is : (page : ℕ) → list_any (is_needed_for layout index need page) vertices ≡ true → IsNeededBySome layout index need vertices page
  needed-is page is =
      let v = any-one (is_needed_for layout index need page) vertices is in
      let dir = any-one (λ (dir : Dir). holds_some (begin_of layout index dir v.one) (end_of layout index dir v.one) page) (dirs_of need) v.passes in
      record {
        vertex = v.one;
        is_one = v.among;
        is_for = record {
          dir = dir.one;
          is_needed = dir.among;
          holds = holds-is (begin_of layout index dir.one v.one) (end_of layout index dir.one v.one) page dir.passes;
        };
      }

  -- a list with all of them has as many at least
  pub needed-few : (pages : List ℕ) → ((page : ℕ) → IsNeededBySome layout index need vertices page → Contains pages page)
      → length (needed_pages layout index need vertices) ≤ length pages
  unfolding needed_pages
  needed-few pages all =
      let test : ℕ → Bool = λ page. list_any (is_needed_for layout index need page) vertices in
      let range : List ℕ = range_with_len 0 layout.pages in
      no_more_than (filter test range) pages (apart-range test 0 layout.pages)
      (λ k d below.
      let has = Contains-get_or (filter test range) k d below in
      all (get_or (filter test range) k d) (needed-is (get_or (filter test range) k d) (filter_contains test range (get_or (filter test range) k d) has).1))

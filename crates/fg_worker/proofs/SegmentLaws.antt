-- The jobs on the segments of a list stand for the list's entries, on its pages.
use Rattle.std.proofs.Common.{◌≡◌, ℕ, suc, ◌+◌, ◌-◌, ◌*◌, ◌/◌, ◌<◌, ◌≤◌, inl, inr, Bool, true, false, List, [], ◌∷◌, ◌++◌, length, map, refl, sym, ap, ◌∙◌, subst, arith}
use Rattle.std.specs.Prelude.{filter}
use Rattle.std.specs.List.{Contains}
use Rattle.std.proofs.lemmas.Bool.{cases_lt}
use Rattle.std.proofs.lemmas.List.{map-append}
use Rattle.std.proofs.lemmas.List.Elements.{filter-append}
use Rattle.std.proofs.lemmas.List.Sums.{sum_by-cons}
use Rattle.fg_base.specs.declared.plain.BadEdge.{BadEdge}
use Rattle.fg_base.specs.declared.plain.Dir.{Dir}
use Rattle.fg_base.specs.declared.plain.Entry.{Entry}
use Rattle.fg_edges.specs.declared.segment.Segment.{Segment}
use Rattle.fg_edges.specs.Parts.{AreParts, parts_entries}
use Rattle.fg_edges.specs.Segment.{count_of, segment_entries}
use Rattle.fg_edges.specs.Segments.{ListRest}
use Rattle.fg_image.proofs.EntryLaws.{length-entries_at}
use Rattle.fg_image.specs.Needed.{HoldsSome}
use Rattle.fg_index.specs.ImageIndex.{entry_bytes}
use Rattle.fg_model.specs.declared.mail.Mail.{Mail}
use Rattle.fg_model.specs.VertexRun.{edges_from, message_along}
use Rattle.fg_stripe.specs.Held.{page_of}
use Rattle.fg_task.specs.declared.job.Job.{Job}
use Rattle.fg_task.specs.Book.{page_of_job}
use Rattle.fg_task.specs.Jobs.{Work, edges_in, entry_count, leads, messages_in}
use Rattle.fg_task.specs.Running.{entries_of}
use Rattle.fg_worker.specs.Beginning.{job_on}
use Rattle.fg_worker.specs.Jobs.{edges_by, mails_by}
use Rattle.fg_worker.proofs.ListLaws.{Contains-cases, Contains-first, Contains-later}

-- edges of one part of a list after another
pub edges_from-append : (v : ℕ) (dir : Dir) (xs ys : List Entry) (place : ℕ)
    → edges_from v dir place (xs ++ ys) ≡ edges_from v dir place xs ++ edges_from v dir (place + length xs) ys
edges_from-append v dir [] ys place = let same : place + 0 ≡ place = omega arith in cc
edges_from-append v dir (x ∷ xs) ys place =
    let rest : edges_from v dir (place + 1) (xs ++ ys) ≡ edges_from v dir (place + 1) xs ++ edges_from v dir (place + 1 + length xs) ys =
    edges_from-append v dir xs ys (place + 1) in
    let next : place + 1 + length xs ≡ place + suc (length xs) = omega arith in
    cc

pub length-edges_from : (v : ℕ) (dir : Dir) (xs : List Entry) (place : ℕ) → length (edges_from v dir place xs) ≡ length xs
length-edges_from v dir [] place = refl
length-edges_from v dir (x ∷ xs) place = ap suc (length-edges_from v dir xs (place + 1))

-- bytes of entries, of which some are taken
some-bytes : (weighted : Bool) (count : ℕ) → 0 < count → 0 < count * entry_bytes weighted
some-bytes true count some = omega (arith, some)
some-bytes false count some = omega (arith, some)

fewer-bytes : (weighted : Bool) (taken count : ℕ) → taken ≤ count → taken * entry_bytes weighted ≤ count * entry_bytes weighted
fewer-bytes true taken count few = omega (arith, few)
fewer-bytes false taken count few = omega (arith, few)

parted-bytes : (weighted : Bool) (at taken count : ℕ) → taken ≤ count
    → (at + taken * entry_bytes weighted) + (count - taken) * entry_bytes weighted ≡ at + count * entry_bytes weighted
parted-bytes true at taken count few = omega (arith, few)
parted-bytes false at taken count few = omega (arith, few)

no-bytes : (weighted : Bool) (at count byte : ℕ) → count ≡ 0 → at ≤ byte → byte < at + count * entry_bytes weighted → ⊥
no-bytes true at count byte none from to = omega (arith, none, from, to)
no-bytes false at count byte none from to = omega (arith, none, from, to)

-- the bytes of a segment stand on its page
on-page : (at page from to taken byte : ℕ) → page * 4096 + from ≡ at → from + taken ≡ to → to ≤ 4096 → at ≤ byte → byte < at + taken → page ≡ byte / 4096
on-page at page from to taken byte there whole inside after before = omega (arith, there, whole, inside, after, before)

-- the messages along those of these entries that lead to a vertex
abbrev pub along : Work → ℕ → Dir → List Entry → List Mail
along work carry dir entries = map (message_along work.rules carry dir) (filter (leads work.n) entries)

along-append : (work : Work) (carry : ℕ) (dir : Dir) (xs ys : List Entry) → along work carry dir (xs ++ ys) ≡ along work carry dir xs ++ along work carry dir ys
along-append work carry dir xs ys =
    ap (map (message_along work.rules carry dir)) (filter-append (leads work.n) xs ys)
    ∙ map-append (message_along work.rules carry dir) (filter (leads work.n) xs) (filter (leads work.n) ys)

module _ (work : Work) (v carry : ℕ) (dir : Dir) where
  abbrev jobs_on_all : List Segment → List Job
  jobs_on_all ss = map (job_on v dir carry) ss

  pub segments-mails : (image : List ℕ) (ss : List Segment) → mails_by work (page_of image) (jobs_on_all ss) ≡ along work carry dir (parts_entries work.weighted image ss)
  unfolding mails_by messages_in
  segments-mails image [] = refl
  segments-mails image (s ∷ ss) =
      ap (λ (last : List Mail). along work carry dir (segment_entries work.weighted (page_of image s.page) s) ++ last) (segments-mails image ss)
      ∙ sym (along-append work carry dir (segment_entries work.weighted (page_of image s.page) s) (parts_entries work.weighted image ss))

  abbrev rest_of : ℕ → ℕ → ℕ → ListRest
  rest_of at place count = record { weighted = work.weighted; at = at; place = place; count = count }

  pub segments-edges : (image : List ℕ) (at place count : ℕ) (ss : List Segment) → AreParts (rest_of at place count) ss
      → edges_by work (page_of image) (jobs_on_all ss) ≡ edges_from v dir place (parts_entries work.weighted image ss)
  unfolding edges_by edges_in
  segments-edges image at place count [] none = refl
  segments-edges image at place count (s ∷ ss) (next, others) =
      let taken = count_of work.weighted s in
      let entries = segment_entries work.weighted (page_of image s.page) s in
      let behind = parts_entries work.weighted image ss in
      ap (λ (p : ℕ). edges_from v dir p entries ++ edges_by work (page_of image) (jobs_on_all ss)) next.at_its_place
      ∙ ap (λ (last : List BadEdge). edges_from v dir place entries ++ last)
      (segments-edges image (at + taken * entry_bytes work.weighted) (place + taken) (count - taken) ss others
      ∙ ap (λ (k : ℕ). edges_from v dir (place + k) behind) (sym (length-entries_at work.weighted (page_of image s.page) s.from taken)))
      ∙ sym (edges_from-append v dir entries behind place)

  pub segments-entries : (at place count : ℕ) (ss : List Segment) → AreParts (rest_of at place count) ss → entries_of work (jobs_on_all ss) ≡ count
  segments-entries at place count [] none = sym none
  segments-entries at place count (s ∷ ss) (next, others) =
      let taken = count_of work.weighted s in
      let rest = segments-entries (at + taken * entry_bytes work.weighted) (place + taken) (count - taken) ss others in
      let first = sum_by-cons (entry_count work) (job_on v dir carry s) (jobs_on_all ss) in
      counted taken count _ _ first rest next.there
    where
      counted : (taken count later all : ℕ) → all ≡ taken + later → later ≡ count - taken → taken ≤ count → all ≡ count
      counted taken count later all first rest there = omega (arith, first, rest, there)

  pub segments-held : (at place count : ℕ) (ss : List Segment) → AreParts (rest_of at place count) ss → (page : ℕ)
      → Contains (map page_of_job (jobs_on_all ss)) page → HoldsSome at (at + count * entry_bytes work.weighted) page
  segments-held at place count [] none page (k, below, is) = absurd (omega (arith, below))
  segments-held at place count (s ∷ ss) (next, others) page among =
      let taken = count_of work.weighted s in
      let bytes = taken * entry_bytes work.weighted in
      let some : 0 < bytes = some-bytes work.weighted taken next.some in
      let few : bytes ≤ count * entry_bytes work.weighted = fewer-bytes work.weighted taken count next.there in
      let whole : s.from + bytes ≡ s.to = next.is_segment.inside.whole in
      elim (Contains-cases s.page (map page_of_job (jobs_on_all ss)) page among) [
        | inl same ↦ record {
          byte = at;
          from_begin = omega arith;
          to_end = first-byte at bytes (count * entry_bytes work.weighted) some few;
          is_page = sym same ∙ on-page at s.page s.from s.to bytes at next.on_its_page whole next.is_segment.inside.inside (omega arith)
              (first-byte at bytes bytes some (omega arith));
        }
        | inr later ↦
            let held = segments-held (at + bytes) (place + taken) (count - taken) ss others page later in
            let end = parted-bytes work.weighted at taken count next.there in
            record {
              byte = held.byte;
              from_begin = later-byte at bytes held.byte held.from_begin;
              to_end = subst (λ (k : ℕ). held.byte < k) end held.to_end;
              is_page = held.is_page;
            }
      ]
    where
      first-byte : (at taken all : ℕ) → 0 < taken → taken ≤ all → at < at + all
      first-byte at taken all some few = omega (arith, some, few)

      later-byte : (at taken byte : ℕ) → at + taken ≤ byte → at ≤ byte
      later-byte at taken byte from = omega (arith, from)

  pub segments-all_held : (at place count : ℕ) (ss : List Segment) → AreParts (rest_of at place count) ss → (page : ℕ)
      → HoldsSome at (at + count * entry_bytes work.weighted) page → Contains (map page_of_job (jobs_on_all ss)) page
  segments-all_held at place count [] none page held = absurd (no-bytes work.weighted at count held.byte none held.from_begin held.to_end)
  segments-all_held at place count (s ∷ ss) (next, others) page held =
      let taken = count_of work.weighted s in
      let bytes = taken * entry_bytes work.weighted in
      let whole : s.from + bytes ≡ s.to = next.is_segment.inside.whole in
      elim (cases_lt held.byte (at + bytes)) [
        | inl before ↦ Contains-first s.page (map page_of_job (jobs_on_all ss)) page
            (on-page at s.page s.from s.to bytes held.byte next.on_its_page whole next.is_segment.inside.inside held.from_begin before ∙ sym held.is_page)
        | inr behind ↦ Contains-later s.page (map page_of_job (jobs_on_all ss)) page
            (segments-all_held (at + bytes) (place + taken) (count - taken) ss others page (record {
              byte = held.byte;
              from_begin = behind;
              to_end = subst (λ (k : ℕ). held.byte < k) (sym (parted-bytes work.weighted at taken count next.there)) held.to_end;
              is_page = held.is_page;
            }))
      ]

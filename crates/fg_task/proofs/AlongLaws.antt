-- Sending along the entries of a segment, one after the other.
use Rattle.std.proofs.Common.{◌≡◌, ℕ, ◌+◌, ◌^◌, ◌<◌, ◌≤◌, true, false, Option, None, Some, List, [], ◌∷◌, length, refl, subst, sym, ap, ◌∙◌, arith}
use Rattle.std.specs.Prelude.{find, nat_le}
use Rattle.std.specs.Option.{option_or}
use Rattle.std.proofs.lemmas.Bool.Decides.{nat_tests}
use Rattle.std.proofs.lemmas.Bool.{not_from_false, not_from_true}
use Rattle.fg_base.specs.declared.plain.BadEdge.{BadEdge}
use Rattle.fg_base.specs.declared.plain.Entry.{Entry}
use Rattle.fg_batch.specs.Outbox.{HasRoom, Sending, Sends}
use Rattle.fg_batch.proofs.SentLaws.{sends-more}
use Rattle.fg_edges.specs.Segment.{segment_entries}
use Rattle.fg_model.specs.declared.mail.Mail.{Mail}
use Rattle.fg_model.specs.Iteration.{is_bad}
use Rattle.fg_model.specs.VertexRun.{edges_from, message_along}
use Rattle.fg_task.specs.declared.job.Job.{Job}
use Rattle.fg_task.specs.Jobs.{Work, bad_in, edges_in, leads, messages_along, messages_in}
use Rattle.fg_task.proofs.RunLaws.{few_along, sends-none}

-- the entry as the bad edge that it would be
abbrev pub edge_at : Job → ℕ → Entry → BadEdge
edge_at job place entry = record { v = job.vertex; dir = job.dir; place = place; found = entry.target }

-- of all entries these are left: what is left to be sent is what is left of all that is sent
pub record GoesOn (work : Work) (job : Job) (all rest : List Entry) (start now : Sending) (counted counted_now place : ℕ) (bad : Option BadEdge) : Type 0 where
  pub numbered : place + length rest ≡ job.segment.place + length all
  pub same_map : now.map ≡ start.map
  pub sends : (last : Sending) → Sends now last (messages_along work job rest) → Sends start last (messages_along work job all)
  pub room : (k : ℕ) → HasRoom (k + length all) start → HasRoom (k + length rest) now
  pub counts : counted_now + length (messages_along work job rest) ≡ counted + length (messages_along work job all)
  pub first : option_or bad (find (is_bad work.n) (edges_from job.vertex job.dir place rest)) ≡ find (is_bad work.n) (edges_from job.vertex job.dir job.segment.place all)

module _ (work : Work) (job : Job) where
  pub goes-start : (all : List Entry) (start : Sending) (counted : ℕ) → GoesOn work job all all start start counted counted job.segment.place None
  goes-start all start counted = record { numbered = refl; same_map = refl; sends = λ last sent. sent; room = λ k room. room; counts = refl; first = refl }

  -- an entry that leads to a vertex
  module _ (entry : Entry) (rest : List Entry) (place : ℕ) where
    good-test : entry.target < work.n → nat_le work.n entry.target ≡ false
    good-test vertex = grind (arith, nat_tests)

    bad-test : work.n ≤ entry.target → nat_le work.n entry.target ≡ true
    bad-test none = grind (arith, nat_tests)

    messages-good : entry.target < work.n → messages_along work job (entry ∷ rest) ≡ message_along work.rules job.carry job.dir entry ∷ messages_along work job rest
    messages-good vertex = let test : leads work.n entry ≡ true = not_from_false (nat_le work.n entry.target) (good-test vertex) in rw test refl

    messages-bad : work.n ≤ entry.target → messages_along work job (entry ∷ rest) ≡ messages_along work job rest
    messages-bad none = let test : leads work.n entry ≡ false = not_from_true (nat_le work.n entry.target) (bad-test none) in rw test refl

    find-good : entry.target < work.n → find (is_bad work.n) (edges_from job.vertex job.dir place (entry ∷ rest)) ≡ find (is_bad work.n) (edges_from job.vertex job.dir (place + 1) rest)
    find-good vertex = rw (good-test vertex) refl

    find-bad : work.n ≤ entry.target → find (is_bad work.n) (edges_from job.vertex job.dir place (entry ∷ rest)) ≡ Some (edge_at job place entry)
    find-bad none = rw (bad-test none) refl

  module _ (all : List Entry) (entry : Entry) (rest : List Entry) (start now : Sending) (counted counted_now place : ℕ) (bad : Option BadEdge)
      (goes : GoesOn work job all (entry ∷ rest) start now counted counted_now place bad) where
    -- its number fits, it can be counted, and there is room for its message
    pub goes-fits : job.segment.place + length all < 2 ^ 32 → place + 1 < 2 ^ 32
    goes-fits fits = let numbered = goes.numbered in omega (arith, numbered, fits)

    pub goes-count : entry.target < work.n → counted_now + 1 ≤ counted + length all
    goes-count vertex =
        let some = ap (λ (mails : List Mail). length mails) (messages-good entry rest place vertex) in
        let few = few_along work job all in
        let counts = goes.counts in
        omega (arith, some, few, counts)

    pub goes-room : HasRoom (length all) start → HasRoom 1 now
    goes-room room l below = let r = goes.room 0 (λ k inside. let enough = room k inside in omega (arith, enough)) l below in omega (arith, r)

    pub goes-good : entry.target < work.n → (new : Sending) (counted_then : ℕ) → Sends now new (message_along work.rules job.carry job.dir entry ∷ [])
        → ((k : ℕ) → HasRoom (k + 1) now → HasRoom k new) → counted_then ≡ counted_now + 1 → GoesOn work job all rest start new counted counted_then (place + 1) bad
    goes-good vertex new counted_then sent room count = record {
      numbered = let numbered = goes.numbered in omega (arith, numbered);
      same_map = sent.same_map ∙ goes.same_map;
      sends = λ last more. goes.sends last (subst (Sends now last) (sym (messages-good entry rest place vertex))
          (sends-more now new last (message_along work.rules job.carry job.dir entry ∷ []) (messages_along work job rest) sent more));
      room = λ k enough. room (k + length rest) (λ l below. let r = goes.room k enough l below in omega (arith, r));
      counts = let some = ap (λ (mails : List Mail). length mails) (messages-good entry rest place vertex) in let counts = goes.counts in omega (arith, some, counts, count);
      first = ap (option_or bad) (sym (find-good entry rest place vertex)) ∙ goes.first;
    }

    pub goes-bad : work.n ≤ entry.target → GoesOn work job all rest start now counted counted_now (place + 1) (option_or bad (Some (edge_at job place entry)))
    goes-bad none = record {
      numbered = let numbered = goes.numbered in omega (arith, numbered);
      same_map = goes.same_map;
      sends = λ last more. goes.sends last (subst (Sends now last) (sym (messages-bad entry rest place none)) more);
      room = λ k enough l below. let r = goes.room k enough l below in omega (arith, r);
      counts = ap (λ (mails : List Mail). counted_now + length mails) (sym (messages-bad entry rest place none)) ∙ goes.counts;
      first = kept bad ∙ ap (option_or bad) (sym (find-bad entry rest place none)) ∙ goes.first;
    }
      where
        kept : (bad : Option BadEdge) → option_or (option_or bad (Some (edge_at job place entry))) (find (is_bad work.n) (edges_from job.vertex job.dir (place + 1) rest)) ≡ option_or bad (Some (edge_at job place entry))
        kept None = refl
        kept (Some b) = refl

  -- all entries were gone over
  module _ (bytes : List ℕ) (start now : Sending) (counted counted_now place : ℕ) (bad : Option BadEdge)
      (goes : GoesOn work job (segment_entries work.weighted bytes job.segment) [] start now counted counted_now place bad) where
    pub ends-sent : Sends start now (messages_in work bytes job)
    unfolding messages_in
    ends-sent = goes.sends now (sends-none now)

    pub ends-counted : counted_now ≡ counted + length (messages_in work bytes job)
    unfolding messages_in
    ends-counted = let counts = goes.counts in omega (arith, counts)

    pub ends-bad : bad ≡ bad_in work bytes job
    unfolding edges_in
    ends-bad = same bad ∙ goes.first
      where
        same : (bad : Option BadEdge) → bad ≡ option_or bad None
        same None = refl
        same (Some b) = refl

    pub ends-room : (k : ℕ) → HasRoom (k + length (segment_entries work.weighted bytes job.segment)) start → HasRoom k now
    ends-room k room l below = let r = goes.room k room l below in omega (arith, r)

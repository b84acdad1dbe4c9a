-- The batches of a block have all that was sent.
use Rattle.std.proofs.Common.{◌≡◌, ◌≢◌, ℕ, zero, suc, ◌+◌, ◌<◌, ◌≤◌, ◌==◌, Bool, true, false, List, [], ◌∷◌, ◌++◌, length, map as each, refl, subst, sym, ap, ap₂, ◌∙◌, inl, inr, arith, eq-eqb, IsPermutation}
use Rattle.std.specs.Prelude.{All, filter, not}
use Rattle.std.specs.List.{flat_map, range_with_len}
use Rattle.std.proofs.lemmas.Bool.{cases_eq, ne_eqb}
use Rattle.std.proofs.lemmas.List.{append_assoc}
use Rattle.std.proofs.lemmas.List.Elements.{All-head, All-tail, All-weaker}
use Rattle.std.proofs.lemmas.List.Folds.{flat_map-map}
use Rattle.std.proofs.lemmas.List.Sorted.{IsPermutation-append_comm, IsPermutation-append_left, IsPermutation-append_right, IsPermutation-cons, IsPermutation-refl, IsPermutation-sym, IsPermutation-trans}
use Rattle.fg_batch.proofs.LaneLaws.{lane_below}
use Rattle.fg_batch.specs.declared.batch.Batch.{Batch}
use Rattle.fg_batch.specs.Lanes.{lane_of, lanes_each}
use Rattle.fg_batch.specs.Outbox.{AreBatches, IsUnsent, LaneMail, Sending, Sends, goes_along, has_mail, lane_at, lane_mail, lanes_with_mail, mail_in, told_by}
use Rattle.fg_model.specs.declared.mail.Mail.{Mail}
use Rattle.fg_part.specs.declared.part_map.PartMap.{PartMap}

-- pieces by number, of which one gets more
module _ {X : Type 0} (f g : ℕ → List X) where
  pieces-same : (a n : ℕ) → ((l : ℕ) → a ≤ l → l < a + n → g l ≡ f l) → flat_map g (range_with_len a n) ≡ flat_map f (range_with_len a n)
  pieces-same a zero same = refl
  pieces-same a (suc n) same =
      ap₂ (λ (first rest : List X). first ++ rest) (same a (omega arith) (omega arith))
      (pieces-same (a + 1) n (λ l above below. same l (omega (arith, above)) (omega (arith, below))))

  pieces-more : (more : List X) (k a n : ℕ) → g k ≡ more ++ f k → ((l : ℕ) → l ≢ k → g l ≡ f l) → a ≤ k → k < a + n
      → IsPermutation (flat_map g (range_with_len a n)) (more ++ flat_map f (range_with_len a n))
  pieces-more more k a zero here other above below = absurd (omega (arith, above, below))
  pieces-more more k a (suc n) here other above below =
      let behind = flat_map f (range_with_len (a + 1) n) in
      elim (cases_eq k a) [
        | inl same ↦
            let first : g a ≡ more ++ f a = subst (λ (j : ℕ). g j ≡ more ++ f j) same here in
            let rest : flat_map g (range_with_len (a + 1) n) ≡ behind = pieces-same (a + 1) n (λ l past under. other l (λ is. omega (arith, is, past, same))) in
            let whole : flat_map g (range_with_len a (suc n)) ≡ more ++ (f a ++ behind) =
            ap₂ (λ (first rest : List X). first ++ rest) first rest ∙ append_assoc more (f a) behind in
            subst (λ (xs : List X). IsPermutation (flat_map g (range_with_len a (suc n))) xs) whole (IsPermutation-refl (flat_map g (range_with_len a (suc n))))
        | inr later ↦
            let first : g a ≡ f a = other a (λ is. later (sym is)) in
            let deep = pieces-more more k (a + 1) n here other (omega (arith, above, later)) (omega (arith, below)) in
            let under : IsPermutation (f a ++ flat_map g (range_with_len (a + 1) n)) (f a ++ (more ++ behind)) =
            IsPermutation-append_right (f a) (flat_map g (range_with_len (a + 1) n)) (more ++ behind) deep in
            let turned : IsPermutation ((f a ++ more) ++ behind) ((more ++ f a) ++ behind) =
            IsPermutation-append_left behind (f a ++ more) (more ++ f a) (IsPermutation-append_comm (f a) more) in
            let one : IsPermutation (f a ++ (more ++ behind)) (more ++ (f a ++ behind)) =
            subst (λ (xs : List X). IsPermutation xs (more ++ (f a ++ behind))) (append_assoc (f a) more behind)
            (subst (λ (xs : List X). IsPermutation ((f a ++ more) ++ behind) xs) (append_assoc more (f a) behind) turned) in
            subst (λ (xs : List X). IsPermutation (xs ++ flat_map g (range_with_len (a + 1) n)) (more ++ (f a ++ behind))) (sym first)
            (IsPermutation-trans (f a ++ flat_map g (range_with_len (a + 1) n)) (f a ++ (more ++ behind)) (more ++ (f a ++ behind)) under one)
      ]

-- what each lane has of these messages is all of them
module _ (pmap : PartMap) (count : ℕ) where
  abbrev lanes_of : List Mail → ℕ → List Mail
  lanes_of mails l = filter (goes_along pmap l) mails

  no-pieces : (a n : ℕ) → flat_map (lanes_of []) (range_with_len a n) ≡ []
  no-pieces a zero = refl
  no-pieces a (suc n) = no-pieces (a + 1) n

  lanes-all : (mails : List Mail) → All (λ (mail : Mail). lane_of pmap mail.target < count) mails
      → IsPermutation mails (flat_map (lanes_of mails) (range_with_len 0 count))
  lanes-all [] all = subst (λ (mails : List Mail). IsPermutation [] mails) (sym (no-pieces 0 count)) (IsPermutation-refl [])
  lanes-all (mail ∷ mails) all =
      let lane : ℕ = lane_of pmap mail.target in
      let below : lane < count = All-head (λ (one : Mail). lane_of pmap one.target < count) mail mails all in
      let rest = lanes-all mails (All-tail (λ (one : Mail). lane_of pmap one.target < count) mail mails all) in
      let here : lanes_of (mail ∷ mails) lane ≡ (mail ∷ []) ++ lanes_of mails lane = goes lane refl in
      let more = pieces-more (lanes_of mails) (lanes_of (mail ∷ mails)) (mail ∷ []) lane 0 count here goes-by (omega arith) (omega (arith, below)) in
      IsPermutation-trans (mail ∷ mails) (mail ∷ flat_map (lanes_of mails) (range_with_len 0 count)) (flat_map (lanes_of (mail ∷ mails)) (range_with_len 0 count))
      (IsPermutation-cons mail mails (flat_map (lanes_of mails) (range_with_len 0 count)) rest)
      (IsPermutation-sym (flat_map (lanes_of (mail ∷ mails)) (range_with_len 0 count)) (mail ∷ flat_map (lanes_of mails) (range_with_len 0 count)) more)
    where
      goes : (l : ℕ) → l ≡ lane_of pmap mail.target → lanes_of (mail ∷ mails) l ≡ mail ∷ lanes_of mails l
      goes l same = rw (eq-eqb (lane_of pmap mail.target) l (sym same)) refl

      goes-by : (l : ℕ) → l ≢ lane_of pmap mail.target → lanes_of (mail ∷ mails) l ≡ lanes_of mails l
      goes-by l other = rw (ne_eqb (lane_of pmap mail.target) l (λ same. other (sym same))) refl

-- lanes without mail have none
abbrev mails_of : LaneMail → List Mail
mails_of lane = lane.mails

no_mail : (mails : List Mail) → not (length mails == 0) ≡ false → mails ≡ []
no_mail [] is = refl
no_mail (mail ∷ mails) is =
    let some : not (length (mail ∷ mails) == 0) ≡ true = ap not (ne_eqb (length (mail ∷ mails)) 0 (λ same. omega (arith, same))) in
    absurd (cc)

with_mail : (lanes : List LaneMail) → flat_map mails_of (filter has_mail lanes) ≡ flat_map mails_of lanes
with_mail [] = refl
with_mail (lane ∷ lanes) = by_test (has_mail lane) refl (with_mail lanes)
  where
    by_test : (test : Bool) → has_mail lane ≡ test → flat_map mails_of (filter has_mail lanes) ≡ flat_map mails_of lanes
        → flat_map mails_of (filter has_mail (lane ∷ lanes)) ≡ flat_map mails_of (lane ∷ lanes)
    by_test true is rest = rw is (ap (λ (mails : List Mail). lane.mails ++ mails) rest)
    by_test false is rest = rw is (rest ∙ sym (ap (λ (mails : List Mail). mails ++ flat_map mails_of lanes) (no_mail lane.mails is)))

module _ (first sending : Sending) (mails : List Mail) (block : ℕ) (batches : List Batch) where
  pub batches-all : IsUnsent first → Sends first sending mails → AreBatches sending block batches → All (λ (mail : Mail). mail.target < first.map.n) mails
      → IsPermutation mails (mail_in batches)
  batches-all unsent sends are vertices =
      let count : ℕ = length sending.lanes in
      let each_lane : ℕ = lanes_each sending.map in
      let told : mail_in batches ≡ flat_map mails_of (lanes_with_mail block each_lane sending.lanes) =
      sym (flat_map-map mails_of told_by batches) ∙ ap (flat_map mails_of) are.lanes in
      let by_lane : mail_in batches ≡ flat_map (λ (l : ℕ). (lane_at sending.lanes l).items) (range_with_len 0 count) =
      told ∙ with_mail (each (lane_mail block each_lane sending.lanes) (range_with_len 0 count))
      ∙ flat_map-map mails_of (lane_mail block each_lane sending.lanes) (range_with_len 0 count) in
      let own : mail_in batches ≡ flat_map (lanes_of first.map count mails) (range_with_len 0 count) =
      by_lane ∙ pieces-same (lanes_of first.map count mails) (λ (l : ℕ). (lane_at sending.lanes l).items) 0 count
      (λ l above below.
      sends.more l (omega (arith, below, sends.same_count))
      ∙ ap (λ (before : List Mail). before ++ lanes_of first.map count mails l) (unsent.none l)) in
      let all : All (λ (mail : Mail). lane_of first.map mail.target < count) mails =
      All-weaker (λ (mail : Mail). mail.target < first.map.n) (λ (mail : Mail). lane_of first.map mail.target < count)
      (λ mail vertex. let below = lane_below first.map mail.target vertex in omega (arith, below, unsent.count, sends.same_count)) mails vertices in
      subst (λ (ms : List Mail). IsPermutation mails ms) (sym own) (lanes-all first.map count mails all)

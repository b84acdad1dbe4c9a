-- The batches of a part lane by lane are the batches of the part.
use Rattle.std.proofs.Common.{◌≡◌, ◌≢◌, ℕ, zero, suc, ◌+◌, ◌<◌, ◌≤◌, ◌==◌, Bool, true, false, List, [], ◌∷◌, ◌++◌, Option, map as each, refl, subst, sym, ap, ap₂, ◌∙◌, inl, inr, arith, eq-eqb, append-nil}
use Rattle.std.proofs.lemmas.Bool.{cases_eq, ne_eqb}
use Rattle.std.proofs.lemmas.Grind.{flat_map-append}
use Rattle.std.proofs.lemmas.List.{append_assoc}
use Rattle.std.proofs.lemmas.List.Elements.{All-head, All-tail, filter-append}
use Rattle.std.proofs.lemmas.List.FromFn.{map-range_with_len_more}
use Rattle.std.proofs.lemmas.List.Sorted.{IsPermutation-append_comm, IsPermutation-append_left, IsPermutation-append_right, IsPermutation-refl, IsPermutation-trans}
use Rattle.std.proofs.lemmas.List.Sums.{fold-append}
use Rattle.std.specs.Prelude.{All, IsPermutation, filter}
use Rattle.std.specs.List.{flat_map, range_with_len}
use Rattle.fg_batch.specs.declared.batch.Batch.{Batch}
use Rattle.fg_batch.specs.Inbox.{with_all, with_mail}
use Rattle.fg_batch.specs.Outbox.{batched_for, mail_in}
use Rattle.fg_gather.specs.Deliver.{is_along, mail_along, mail_for}
use Rattle.fg_model.specs.declared.mail.Mail.{Mail}
use Rattle.fg_model.specs.Program.{Rules}
use Rattle.fg_part.specs.declared.part_map.PartMap.{PartMap}

-- pieces by number, of which one gets more
module _ {X : Type 0} (f g : ℕ → List X) where
  pieces-same : (a n : ℕ) → ((l : ℕ) → a ≤ l → g l ≡ f l) → flat_map g (range_with_len a n) ≡ flat_map f (range_with_len a n)
  pieces-same a zero same = refl
  pieces-same a (suc n) same = ap₂ (λ (first rest : List X). first ++ rest) (same a (omega arith)) (pieces-same (a + 1) n (λ l above. same l (omega (arith, above))))

  pub pieces-more : (more : List X) (k a n : ℕ) → g k ≡ more ++ f k → ((l : ℕ) → l ≢ k → g l ≡ f l) → a ≤ k → k < a + n
      → IsPermutation (flat_map g (range_with_len a n)) (more ++ flat_map f (range_with_len a n))
  pieces-more more k a zero here other above below = absurd (omega (arith, above, below))
  pieces-more more k a (suc n) here other above below =
      let behind = flat_map f (range_with_len (a + 1) n) in
      elim (cases_eq k a) [
        | inl same ↦
            let first : g a ≡ more ++ f a = subst (λ (j : ℕ). g j ≡ more ++ f j) same here in
            let rest : flat_map g (range_with_len (a + 1) n) ≡ behind = pieces-same (a + 1) n (λ l past. other l (λ is. omega (arith, is, past, same))) in
            let whole : flat_map g (range_with_len a (suc n)) ≡ more ++ (f a ++ behind) =
            ap₂ (λ (first rest : List X). first ++ rest) first rest ∙ append_assoc more (f a) behind in
            subst (λ (xs : List X). IsPermutation (flat_map g (range_with_len a (suc n))) xs) whole (IsPermutation-refl (flat_map g (range_with_len a (suc n))))
        | inr later ↦
            let first : g a ≡ f a = other a (λ is. later (sym is)) in
            let deep = pieces-more more k (a + 1) n here other (omega (arith, above, later)) (omega (arith, below)) in
            let under : IsPermutation (f a ++ flat_map g (range_with_len (a + 1) n)) (f a ++ (more ++ behind)) =
            IsPermutation-append_right (f a) (flat_map g (range_with_len (a + 1) n)) (more ++ behind) deep in
            let turned : IsPermutation ((f a ++ more) ++ behind) ((more ++ f a) ++ behind) =
            IsPermutation-append_left behind (f a ++ more) (more ++ f a) (IsPermutation-append_comm (f a) more) in
            let one : IsPermutation (f a ++ (more ++ behind)) (more ++ (f a ++ behind)) =
            subst (λ (xs : List X). IsPermutation xs (more ++ (f a ++ behind))) (append_assoc (f a) more behind)
            (subst (λ (xs : List X). IsPermutation ((f a ++ more) ++ behind) xs) (append_assoc more (f a) behind) turned) in
            subst (λ (xs : List X). IsPermutation (xs ++ flat_map g (range_with_len (a + 1) n)) (more ++ (f a ++ behind))) (sym first)
            (IsPermutation-trans (f a ++ flat_map g (range_with_len (a + 1) n)) (f a ++ (more ++ behind)) (more ++ (f a ++ behind)) under one)
      ]

  pub pieces-all_same : (a n : ℕ) → ((l : ℕ) → g l ≡ f l) → flat_map g (range_with_len a n) ≡ flat_map f (range_with_len a n)
  pieces-all_same a n same = pieces-same a n (λ l above. same l)

pub pieces-last : {X : Type 0} (f : ℕ → List X) (a n j : ℕ) → a + n ≡ j → flat_map f (range_with_len a (n + 1)) ≡ flat_map f (range_with_len a n) ++ f j
pieces-last {X} f a n j is = ap (flat_map f) (more a n j is) ∙ flat_map-append f (range_with_len a n) (j ∷ []) ∙ ap (λ (xs : List X). flat_map f (range_with_len a n) ++ xs) (append-nil (f j))
  where
    same : (a n : ℕ) → range_with_len a n ≡ each (λ (k : ℕ). k) (range_with_len a n)
    same a zero = refl
    same a (suc n) = ap (λ (rest : List ℕ). a ∷ rest) (same (a + 1) n)

    more : (a n j : ℕ) → a + n ≡ j → range_with_len a (n + 1) ≡ range_with_len a n ++ j ∷ []
    more a n j is =
        same a (n + 1) ∙ map-range_with_len_more (λ (k : ℕ). k) a n j is ∙ ap (λ (first : List ℕ). first ++ j ∷ []) (sym (same a n))

pieces-none : {X : Type 0} (a n : ℕ) → flat_map (λ (l : ℕ). let none : List X = [] in none) (range_with_len a n) ≡ []
pieces-none a zero = refl
pieces-none a (suc n) = pieces-none (a + 1) n

mail_along-append : (part lane : ℕ) (first next : List Batch) → mail_along part (first ++ next) lane ≡ mail_along part first lane ++ mail_along part next lane
mail_along-append part lane first next =
    ap mail_in (filter-append (is_along part lane) first next)
    ∙ flat_map-append (λ (batch : Batch). batch.mails.items) (filter (is_along part lane) first) (filter (is_along part lane) next)

-- what was delivered of some batches and then of more
pub along-join : (P : Rules) (map : PartMap) (held : List (Option ℕ)) (part lane : ℕ) (first next : List Batch)
    → with_all P map (with_all P map held (mail_along part first lane)) (mail_along part next lane) ≡ with_all P map held (mail_along part (first ++ next) lane)
along-join P map held part lane first next =
    sym (ap (with_all P map held) (mail_along-append part lane first next) ∙ fold-append (with_mail P map) held (mail_along part first lane) (mail_along part next lane))

-- and of one lane more
pub lanes-join : (P : Rules) (map : PartMap) (held : List (Option ℕ)) (part lane : ℕ) (batches : List Batch)
    → with_all P map (with_all P map held (mail_for part lane batches)) (mail_along part batches lane) ≡ with_all P map held (mail_for part (lane + 1) batches)
lanes-join P map held part lane batches =
    sym (ap (with_all P map held) (pieces-last (mail_along part batches) 0 lane lane (omega arith))
    ∙ fold-append (with_mail P map) held (mail_for part lane batches) (mail_along part batches lane))

-- one batch
module _ (part lane : ℕ) (batch : Batch) where
  pub along-own : batch.part ≡ part → batch.lane ≡ lane → mail_along part (batch ∷ []) lane ≡ batch.mails.items
  along-own own is = rw (eq-eqb batch.part part own, eq-eqb batch.lane lane is) (append-nil batch.mails.items)

  pub along-another : is_along part lane batch ≡ false → mail_along part (batch ∷ []) lane ≡ []
  along-another other = rw other refl

-- lane by lane all of the part are there
module _ (part lanes : ℕ) where
  pub lanes-permuted : (batches : List Batch) → All (λ (batch : Batch). batch.lane < lanes) batches
      → IsPermutation (mail_for part lanes batches) (batched_for part batches)
  lanes-permuted [] within = subst (λ (xs : List Mail). IsPermutation xs []) (sym (pieces-none 0 lanes)) (IsPermutation-refl [])
  lanes-permuted (batch ∷ batches) within = by_part (batch.part == part) refl (lanes-permuted batches (All-tail (λ (batch : Batch). batch.lane < lanes) batch batches within))
    where
      by_part : (own : Bool) → (batch.part == part) ≡ own → IsPermutation (mail_for part lanes batches) (batched_for part batches)
          → IsPermutation (mail_for part lanes (batch ∷ batches)) (batched_for part (batch ∷ batches))
      by_part true is rest =
          let items = batch.mails.items in
          let here : mail_along part (batch ∷ batches) batch.lane ≡ items ++ mail_along part batches batch.lane =
          rw (is, eq-eqb batch.lane batch.lane refl) refl in
          let other : (l : ℕ) → l ≢ batch.lane → mail_along part (batch ∷ batches) l ≡ mail_along part batches l =
          λ l apart. rw (is, ne_eqb batch.lane l (λ same. apart (sym same))) refl in
          let first = pieces-more (mail_along part batches) (mail_along part (batch ∷ batches)) items batch.lane 0 lanes here other (omega arith)
          (omega (arith, All-head (λ (batch : Batch). batch.lane < lanes) batch batches within)) in
          let all : batched_for part (batch ∷ batches) ≡ items ++ batched_for part batches = rw is refl in
          subst (IsPermutation (mail_for part lanes (batch ∷ batches))) (sym all)
          (IsPermutation-trans (mail_for part lanes (batch ∷ batches)) (items ++ mail_for part lanes batches) (items ++ batched_for part batches) first
          (IsPermutation-append_right items (mail_for part lanes batches) (batched_for part batches) rest))
      by_part false is rest =
          let same : (l : ℕ) → mail_along part (batch ∷ batches) l ≡ mail_along part batches l = λ l. rw is refl in
          let all : batched_for part (batch ∷ batches) ≡ batched_for part batches = rw is refl in
          let lanes_same = pieces-all_same (mail_along part batches) (mail_along part (batch ∷ batches)) 0 lanes same in
          subst (IsPermutation (mail_for part lanes (batch ∷ batches))) (sym all)
          (subst (λ (xs : List Mail). IsPermutation xs (batched_for part batches)) (sym lanes_same) rest)

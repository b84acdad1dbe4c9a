-- What the vertices of a test's block sent, one vertex and one message after the other.
use Rattle.std.proofs.Common.{◌≡◌, ℕ, ◌+◌, ◌-◌, ◌≤◌, ◌++◌, Bool, true, false, cond, Result, Ok, Err, List, [], ◌∷◌, length, ap, ◌∙◌, arith}
use Rattle.std.specs.Prelude.{OnOk, filter}
use Rattle.std.specs.List.{range_with_len}
use Rattle.std.proofs.lemmas.Grind.{flat_map-append}
use Rattle.std.proofs.lemmas.List.{append-nil, length-append}
use Rattle.std.proofs.lemmas.List.Elements.{filter-append}
use Rattle.std.proofs.lemmas.List.FromFn.{length-range_with_len}
use Rattle.fg_base.specs.declared.plain.VState.{VState}
use Rattle.fg_batch.specs.declared.batch.Batch.{Batch}
use Rattle.fg_batch.specs.Outbox.{mail_in}
use Rattle.fg_iter.proofs.ListLaws.{length-filter_le, range-split}
use Rattle.fg_model.specs.declared.mail.Mail.{Mail}
use Rattle.fg_model.specs.Iteration.{state_at}
use Rattle.fg_model.specs.Program.{Rules}
use Rattle.fg_task.specs.Block.{awake_of}

-- where both hold at an Ok, so does what follows from them
pub on_both : {A E : Type 0} (result : Result A E) (one other both : Type 0) → OnOk result one → OnOk result other → (one → other → both) → OnOk result both
on_both (Ok x) one other both first second make = make first second
on_both (Err e) one other both first second make = tt

-- 1 for a vertex that is awake
abbrev pub one_if : Bool → ℕ
one_if true = 1
one_if false = 0

one_kept : (p : ℕ → Bool) (v : ℕ) (b : Bool) → p v ≡ b → length (filter p (v ∷ [])) ≡ one_if b
one_kept p v true is = ap (λ (c : Bool). length (cond c (v ∷ []) [])) is
one_kept p v false is = ap (λ (c : Bool). length (cond c (v ∷ []) [])) is

-- a range, one number more
pub kept_more : (p : ℕ → Bool) (first v : ℕ) (b : Bool) → first ≤ v → p v ≡ b
    → length (filter p (range_with_len first (v + 1 - first))) ≡ length (filter p (range_with_len first (v - first))) + one_if b
kept_more p first v b from is =
    let front = range_with_len first (v - first) in
    let more : v + 1 - first ≡ (v - first) + 1 = omega arith in
    let here : first + (v - first) ≡ v = omega arith in
    let all : range_with_len first (v + 1 - first) ≡ front ++ v ∷ [] =
    ap (range_with_len first) more ∙ range-split first (v - first) 1 ∙ ap (λ (u : ℕ). front ++ u ∷ []) here in
    ap (λ (l : List ℕ). length (filter p l)) all ∙ ap (λ (l : List ℕ). length l) (filter-append p front (v ∷ []))
    ∙ length-append (filter p front) (filter p (v ∷ [])) ∙ ap (λ (n : ℕ). length (filter p front) + n) (one_kept p v b is)

-- no more are kept than there are
pub kept_few : (p : ℕ → Bool) (first count : ℕ) → length (filter p (range_with_len first count)) ≤ count
kept_few p first count = omega (arith, length-filter_le p (range_with_len first count), length-range_with_len first count)

-- one batch more
pub mail_more : (batches : List Batch) (batch : Batch) (mails more : List Mail) → mail_in batches ≡ mails → batch.mails.items ≡ more
    → mail_in (batches ++ batch ∷ []) ≡ mails ++ more
mail_more batches batch mails more is own =
    flat_map-append (λ (b : Batch). b.mails.items) batches (batch ∷ [])
    ∙ ap (λ (l : List Mail). l ++ mail_in (batch ∷ [])) is ∙ ap (λ (l : List Mail). mails ++ l) (append-nil batch.mails.items ∙ own)

-- no more vertices are awake than there are
pub awake_few : (P : Rules) (phase : ℕ) (states : List VState) (first count : ℕ) → length (awake_of P phase states (range_with_len first count)) ≤ count
awake_few P phase states first count = kept_few (λ (v : ℕ). P.wake phase (state_at states v)) first count

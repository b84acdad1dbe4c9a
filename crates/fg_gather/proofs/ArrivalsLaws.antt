-- What came to the vertices, after a delivery and where nothing came.
use Rattle.std.proofs.Common.{◌≡◌, ◌≢◌, ℕ, ◌+◌, ◌<◌, ◌^◌, ◌==◌, Bool, true, false, List, [], ◌∷◌, ◌++◌, Option, None, length, get_or, map, refl, subst, sym, ap, ◌∙◌, arith, lit<, eq-eqb}
use Rattle.std.proofs.lemmas.Bool.{ne_eqb, eqb-true}
use Rattle.std.proofs.lemmas.List.{map-append}
use Rattle.std.proofs.lemmas.List.Elements.{All-append, All-head, All-nil, All-tail, All-weaker, filter-append}
use Rattle.std.proofs.lemmas.List.Sorted.{All-permutation, IsPermutation-sym}
use Rattle.std.proofs.lemmas.List.Sums.{fold-append}
use Rattle.std.proofs.Math.Nat.{mod-lt}
use Rattle.std.specs.Prelude.{All, IsPermutation, filter, fold}
use Rattle.fg_base.specs.declared.plain.VState.{VState}
use Rattle.fg_batch.proofs.FoldLaws.{Fits, folds, folds-fit}
use Rattle.fg_batch.specs.declared.batch.Batch.{Batch}
use Rattle.fg_batch.specs.Inbox.{held_at, received, with_all}
use Rattle.fg_batch.specs.Lanes.{IsFor, lanes_each}
use Rattle.fg_batch.specs.Outbox.{IsForItsPart, batched_for, mail_in}
use Rattle.fg_gather.proofs.DeliverLaws.{lanes-permuted}
use Rattle.fg_gather.proofs.PieceLaws.{all-behind, all-first}
use Rattle.fg_gather.specs.Arrivals.{AreFit, HasCome, came_to}
use Rattle.fg_gather.specs.Deliver.{mail_for}
use Rattle.fg_model.proofs.MailLemmas.{vertex_in_any_order}
use Rattle.fg_model.specs.declared.mail.Mail.{Mail}
use Rattle.fg_model.specs.Iteration.{sent_to}
use Rattle.fg_model.specs.Program.{IsInRange, IsLawful, Rules}
use Rattle.fg_part.specs.declared.part_map.PartMap.{PartMap}
use Rattle.fg_part.specs.PartMap.{block_of, part_of, places_in}

sent_to-append : (v : ℕ) (first next : List Mail) → sent_to v (first ++ next) ≡ sent_to v first ++ sent_to v next
sent_to-append v first next =
    ap (map (λ (one : Mail). one.message)) (filter-append (λ (one : Mail). one.target == v) first next)
    ∙ map-append (λ (one : Mail). one.message) (filter (λ (one : Mail). one.target == v) first) (filter (λ (one : Mail). one.target == v) next)

abbrev blank : VState
blank = record { a = 0; b = 0; c = 0 }

-- states stay in range
pub fold-fits : (P : Rules) → IsLawful P → (xs : List ℕ) (s : VState) → All (λ (x : ℕ). x < 2 ^ 64) xs → IsInRange s → IsInRange (fold P.receive s xs)
fold-fits P lawful [] s fit s_fits = s_fits
fold-fits P lawful (x ∷ xs) s fit s_fits =
    fold-fits P lawful xs (P.receive s x) (All-tail (λ (x : ℕ). x < 2 ^ 64) x xs fit) (lawful.receive_fits s x s_fits (All-head (λ (x : ℕ). x < 2 ^ 64) x xs fit))

pub sent-fit : (v : ℕ) (mail : List Mail) → AreFit mail → All (λ (x : ℕ). x < 2 ^ 64) (sent_to v mail)
sent-fit v [] fit = All-nil (λ (x : ℕ). x < 2 ^ 64)
sent-fit v (one ∷ mail) fit = by_test (one.target == v) refl (sent-fit v mail (All-tail (λ (one : Mail). one.message < 2 ^ 64) one mail fit))
  where
    by_test : (test : Bool) → (one.target == v) ≡ test → All (λ (x : ℕ). x < 2 ^ 64) (sent_to v mail) → All (λ (x : ℕ). x < 2 ^ 64) (sent_to v (one ∷ mail))
    by_test true is rest = rw is (All-append (λ (x : ℕ). x < 2 ^ 64) (one.message ∷ []) (sent_to v mail) here rest)
      where
        here : All (λ (x : ℕ). x < 2 ^ 64) (one.message ∷ [])
        here k d below = subst (λ (x : ℕ). x < 2 ^ 64) (ap (λ (j : ℕ). get_or (one.message ∷ []) j d) (let e : 0 ≡ k = omega (arith, below) in e)) (All-head (λ (one : Mail). one.message < 2 ^ 64) one mail fit)
    by_test false is rest = rw is rest

-- mail for another part has nothing for a vertex
none-to : (map : PartMap) (part v : ℕ) (mail : List Mail) → part ≢ part_of map v → All (IsFor map part) mail → sent_to v mail ≡ []
none-to map part v [] other own = refl
none-to map part v (one ∷ mail) other own =
    let away : one.target ≢ v = λ same. other (sym (All-head (IsFor map part) one mail own).own ∙ ap (part_of map) same) in
    rw (ne_eqb one.target v away) (none-to map part v mail other (All-tail (IsFor map part) one mail own))

bool_apart : true ≡ false → ⊥
bool_apart is = cc

-- all that batches hold for a vertex stands in those of its part
batched-sent : (map : PartMap) (v : ℕ) (batches : List Batch) → All (IsForItsPart map) batches → sent_to v (batched_for (part_of map v) batches) ≡ sent_to v (mail_in batches)
batched-sent map v [] fit = refl
batched-sent map v (batch ∷ batches) fit = by_part (batch.part == part_of map v) refl (batched-sent map v batches (All-tail (IsForItsPart map) batch batches fit))
  where
    by_part : (own : Bool) → (batch.part == part_of map v) ≡ own → sent_to v (batched_for (part_of map v) batches) ≡ sent_to v (mail_in batches)
        → sent_to v (batched_for (part_of map v) (batch ∷ batches)) ≡ sent_to v (mail_in (batch ∷ batches))
    by_part true is rest =
        let all : batched_for (part_of map v) (batch ∷ batches) ≡ batch.mails.items ++ batched_for (part_of map v) batches = rw is refl in
        ap (sent_to v) all ∙ sent_to-append v batch.mails.items (batched_for (part_of map v) batches)
        ∙ ap (λ (xs : List ℕ). sent_to v batch.mails.items ++ xs) rest ∙ sym (sent_to-append v batch.mails.items (mail_in batches))
    by_part false is rest =
        let all : batched_for (part_of map v) (batch ∷ batches) ≡ batched_for (part_of map v) batches = rw is refl in
        let apart : batch.part ≢ part_of map v = λ same. bool_apart (sym (eq-eqb batch.part (part_of map v) same) ∙ is) in
        let none : sent_to v batch.mails.items ≡ [] =
        none-to map batch.part v batch.mails.items apart (All-head (IsForItsPart map) batch batches fit).mails in
        ap (sent_to v) all ∙ rest ∙ sym (sent_to-append v batch.mails.items (mail_in batches) ∙ ap (λ (xs : List ℕ). xs ++ sent_to v (mail_in batches)) none)

batched-fit : (part : ℕ) (batches : List Batch) → AreFit (mail_in batches) → AreFit (batched_for part batches)
batched-fit part [] fit = fit
batched-fit part (batch ∷ batches) fit = by_part (batch.part == part) refl (batched-fit part batches (all-behind (λ (one : Mail). one.message < 2 ^ 64) batch.mails.items (mail_in batches) fit))
  where
    by_part : (own : Bool) → (batch.part == part) ≡ own → AreFit (batched_for part batches) → AreFit (batched_for part (batch ∷ batches))
    by_part true is rest =
        rw is (All-append (λ (one : Mail). one.message < 2 ^ 64) batch.mails.items (batched_for part batches) (all-first (λ (one : Mail). one.message < 2 ^ 64) batch.mails.items (mail_in batches) fit) rest)
    by_part false is rest = rw is rest

batched-own : (map : PartMap) (part : ℕ) (batches : List Batch) → All (IsForItsPart map) batches → All (IsFor map part) (batched_for part batches)
batched-own map part [] fit = All-nil (IsFor map part)
batched-own map part (batch ∷ batches) fit = by_part (batch.part == part) refl (batched-own map part batches (All-tail (IsForItsPart map) batch batches fit))
  where
    by_part : (own : Bool) → (batch.part == part) ≡ own → All (IsFor map part) (batched_for part batches) → All (IsFor map part) (batched_for part (batch ∷ batches))
    by_part true is rest =
        let mine : All (IsFor map part) batch.mails.items =
        subst (λ (p : ℕ). All (IsFor map p) batch.mails.items) (eqb-true batch.part part is) (All-head (IsForItsPart map) batch batches fit).mails in
        rw is (All-append (IsFor map part) batch.mails.items (batched_for part batches) mine rest)
    by_part false is rest = rw is rest

-- a delivery: each part's places took the batches of the part, lane by lane
module _ (P : Rules) (lawful : IsLawful P) (map : PartMap) (parts now : List (List (Option ℕ))) (batches : List Batch) (mail : List Mail)
    (count : (part : ℕ) → part < map.parts → length (get_or parts part []) ≡ places_in map part)
    (took : (part : ℕ) → part < map.parts → get_or now part [] ≡ with_all P map (get_or parts part []) (mail_for part (lanes_each map) batches))
    (fit : All (IsForItsPart map) batches) (numbers : AreFit (mail_in batches)) (came : HasCome P map parts mail) where
  abbrev lanes_of : ℕ → List Mail
  lanes_of part = mail_for part (lanes_each map) batches

  permuted : (part : ℕ) → IsPermutation (lanes_of part) (batched_for part batches)
  permuted part = lanes-permuted part (lanes_each map) batches (All-weaker (IsForItsPart map) (λ (batch : Batch). batch.lane < lanes_each map) (λ batch one. one.lane) batches fit)

  back : (part : ℕ) → IsPermutation (batched_for part batches) (lanes_of part)
  back part = IsPermutation-sym (lanes_of part) (batched_for part batches) (permuted part)

  lanes_fit : (part : ℕ) → AreFit (lanes_of part)
  lanes_fit part = All-permutation (λ (one : Mail). one.message < 2 ^ 64) (batched_for part batches) (lanes_of part) (back part) (batched-fit part batches numbers)

  lanes_own : (part : ℕ) → All (IsFor map part) (lanes_of part)
  lanes_own part = All-permutation (IsFor map part) (batched_for part batches) (lanes_of part) (back part) (batched-own map part batches fit)

  own_part : (v : ℕ) → part_of map v < map.parts
  own_part v = mod-lt (block_of map v) map.some_parts

  more : (v : ℕ) → came_to map now v ≡ held_at map (with_all P map (get_or parts (part_of map v) []) (lanes_of (part_of map v))) v
  more v = ap (λ (held : List (Option ℕ)). held_at map held v) (took (part_of map v) (own_part v))

  blank_fits : IsInRange blank
  blank_fits = record { a_fits = lit< tt; b_fits = lit< tt; c_fits = lit< tt }

  pub came-more : HasCome P map now (mail ++ mail_in batches)
  came-more = record {
    all_fit = All-append (λ (one : Mail). one.message < 2 ^ 64) mail (mail_in batches) came.all_fit numbers;
    number_fits = λ v vertex.
        let part = part_of map v in
        subst Fits (sym (more v))
        (folds-fit P lawful map part v vertex refl blank blank_fits (lanes_of part) (get_or parts part []) (count part (own_part v)) (lanes_own part) (lanes_fit part)
        (came.number_fits v vertex));
    folds = λ v s vertex s_fits.
        let part = part_of map v in
        let held = get_or parts part [] in
        let t = fold P.receive s (sent_to v mail) in
        let t_fits : IsInRange t = fold-fits P lawful (sent_to v mail) s (sent-fit v mail came.all_fit) s_fits in
        ap (λ (o : Option ℕ). received P o s) (more v)
        ∙ folds P lawful map part v vertex refl s s_fits (lanes_of part) held (count part (own_part v)) (lanes_own part) (lanes_fit part) (came.number_fits v vertex)
        ∙ ap (λ (u : VState). fold P.receive u (sent_to v (lanes_of part))) (came.folds v s vertex s_fits)
        ∙ vertex_in_any_order P lawful v (lanes_of part) (batched_for part batches) (permuted part) (lanes_fit part) t t_fits
        ∙ ap (fold P.receive t) (batched-sent map v batches fit)
        ∙ sym (ap (fold P.receive s) (sent_to-append v mail (mail_in batches)) ∙ fold-append P.receive s (sent_to v mail) (sent_to v (mail_in batches)));
  }

-- nothing came where no place holds anything
pub none-came : (P : Rules) (map : PartMap) (parts : List (List (Option ℕ))) → ((v : ℕ) → v < map.n → came_to map parts v ≡ None) → HasCome P map parts []
none-came P map parts none = record {
  all_fit = All-nil (λ (one : Mail). one.message < 2 ^ 64);
  number_fits = λ v vertex. subst Fits (sym (none v vertex)) tt;
  folds = λ v s vertex s_fits. ap (λ (o : Option ℕ). received P o s) (none v vertex);
}

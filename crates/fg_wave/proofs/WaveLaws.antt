-- What came of one wave, from its results.
use Rattle.std.proofs.Common.{◌≡◌, ℕ, ◌^◌, ◌<◌, ◌≤◌, Option, None, List, [], ◌∷◌, ◌++◌, map, length, refl, sym, ap, subst, ◌∙◌, arith, IsPermutation}
use Rattle.std.proofs.lemmas.Grind.{flat_map-append}
use Rattle.std.proofs.lemmas.List.Elements.{All-append, All-head, All-nil, All-tail}
use Rattle.std.proofs.lemmas.List.Folds.{flat_map-map}
use Rattle.std.specs.Prelude.{All}
use Rattle.std.specs.Global.{Vec}
use Rattle.std.specs.List.{flat_map}
use Rattle.std.specs.List.Sorted.{IsStrictlyIncreasing}
use Rattle.fg_base.specs.declared.plain.BadEdge.{BadEdge}
use Rattle.fg_batch.specs.declared.batch.Batch.{Batch}
use Rattle.fg_batch.specs.Outbox.{IsForItsPart, mail_in}
use Rattle.fg_crew.specs.Wave.{IsWave, blocks_in}
use Rattle.fg_gather.specs.Arrivals.{AreFit, HasCome}
use Rattle.fg_gather.specs.Deliver.{batches_in}
use Rattle.fg_model.specs.declared.mail.Mail.{Mail}
use Rattle.fg_model.specs.Program.{Rules}
use Rattle.fg_part.specs.declared.part_map.PartMap.{PartMap}
use Rattle.fg_task.specs.Blocks.{Blocks, mail_of}
use Rattle.fg_task.specs.Spending.{Counted, NoneBad, SpentInAll, active_in, sent_in}
use Rattle.fg_task.specs.declared.block_result.BlockResult.{BlockResult}
use Rattle.fg_wave.specs.declared.told.Told.{Told}
use Rattle.fg_wave.specs.Telling.{IsLeastBadOf}
use Rattle.fg_wave.specs.Waves.{IsTold, MoreCame, SpentAsTold}
use Rattle.fg_wave.proofs.TellingLaws.{least_is_first}

-- lists of lists of lists
flat-flat : {A B C : Type 0} (g : B → List C) (f : A → List B) (xs : List A) → flat_map g (flat_map f xs) ≡ flat_map (λ x. flat_map g (f x)) xs
flat-flat g f [] = refl
flat-flat {C = C} g f (x ∷ xs) = flat_map-append g (f x) (flat_map f xs) ∙ ap (λ (l : List C). flat_map g (f x) ++ l) (flat-flat g f xs)

all-flat : {A B : Type 0} (P : B → Type 0) (f : A → List B) (xs : List A) → All (λ x. All P (f x)) xs → All P (flat_map f xs)
all-flat P f [] all = All-nil P
all-flat P f (x ∷ xs) all = All-append P (f x) (flat_map f xs) (All-head (λ y. All P (f y)) x xs all) (all-flat P f xs (All-tail (λ y. All P (f y)) x xs all))

-- the batches of each result
abbrev pub batches_each : List BlockResult → List (Vec Batch)
batches_each results = map (λ (one : BlockResult). one.batches) results

batches-flat : (results : List BlockResult) → batches_in (batches_each results) ≡ flat_map (λ (one : BlockResult). one.batches.items) results
batches-flat results = flat_map-map (λ (batches : Vec Batch). batches.items) (λ (one : BlockResult). one.batches) results

pub mail-flat : (results : List BlockResult) → mail_in (batches_in (batches_each results)) ≡ flat_map mail_of results
mail-flat results = ap mail_in (batches-flat results) ∙ flat-flat (λ (batch : Batch). batch.mails.items) (λ (one : BlockResult). one.batches.items) results

none_bad : (results : List BlockResult) (bad : Option BadEdge) → bad ≡ None → IsLeastBadOf results bad → NoneBad results
none_bad results bad none found = subst (IsLeastBadOf results) none found

module _ (blocks : Blocks) (list : List ℕ) (from to : ℕ) (results : List BlockResult) (wave : IsWave blocks list from to results) where
  -- they may be delivered
  pub batches-fit : All (IsForItsPart blocks.map) (batches_in (batches_each results))
  batches-fit = subst (λ (l : List Batch). All (IsForItsPart blocks.map) l) (sym (batches-flat results))
      (all-flat (IsForItsPart blocks.map) (λ (one : BlockResult). one.batches.items) results (λ k d below. (wave.each_own k d below).cut))

  numbers-fit : AreFit (mail_in (batches_in (batches_each results)))
  numbers-fit = subst AreFit (sym (mail-flat results)) (all-flat (λ (one : Mail). one.message < 2 ^ 64) mail_of results (λ k d below. (wave.each_own k d below).fits))

  module _ (told : Told) (active : told.active ≡ active_in results) (sent : told.sent ≡ sent_in results) (found : IsLeastBadOf results told.bad) where
    pub wave_told : IsStrictlyIncreasing list → to ≤ length list → IsTold blocks (blocks_in list from to) told
    wave_told rises inside = record {
      few_active = omega (arith, active, wave.active);
      few_sent = omega (arith, sent, wave.few_sent);
      all_active = λ none. active ∙ wave.active;
      all_sent = λ none. sent ∙ wave.all_sent (none_bad results told.bad none found);
      bad = λ known. least_is_first blocks list from to results wave known rises inside told.bad found;
    }

    pub wave_spent : (old new : List Counted) → SpentInAll blocks old new results → SpentAsTold blocks (blocks_in list from to) old new told
    wave_spent old new spent = record {
      runs = omega (arith, active, spent.runs);
      entries = omega (arith, sent, spent.entries);
      hits = λ none. let fine = spent.hits (none_bad results told.bad none found) in omega (arith, fine, wave.visits);
    }

  module _ (P : Rules) (pmap : PartMap) (told : Told) (old new : List (List (Option ℕ))) where
    -- what was delivered
    pub wave_came : (batches : List (Vec Batch)) → batches ≡ batches_each results
        → ((before : List Mail) → AreFit (mail_in (batches_in batches)) → HasCome P pmap old before → HasCome P pmap new (before ++ mail_in (batches_in batches)))
        → MoreCame P pmap blocks (blocks_in list from to) told old new
    wave_came batches is come before had =
        let same : mail_in (batches_in batches) ≡ flat_map mail_of results = ap (λ (l : List (Vec Batch)). mail_in (batches_in l)) is ∙ mail-flat results in
        record {
          mail = mail_in (batches_in batches);
          come = come before (subst (λ (l : List (Vec Batch)). AreFit (mail_in (batches_in l))) (sym is) numbers-fit) had;
          own = λ known none. subst (λ (l : List Mail). IsPermutation (flat_map blocks.mail_of (blocks_in list from to)) l) (sym same) (wave.messages known);
        }

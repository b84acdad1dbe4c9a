use Rattle.std.proofs.Common.{◌≡◌, ℕ, ◌+◌, ◌<◌, ◌≤◌, ◌^◌, List, length, get_or, slice_index, sym, ap, subst, ◌∙◌, arith}
use Rattle.std.proofs.lemmas.List.{get_or_default}
use Rattle.fg_steal.specs.declared.run.Run.{Run}
use Rattle.fg_steal.specs.declared.run.Run.TheVariants.{Near, Far}
use Rattle.fg_steal.specs.Claims.{ClaimsValue}
use Rattle.fg_steal.specs.Run.{near_length, run_lengths, run_length, run_of, block_at, IsInRun}
use Rattle.fg_steal.proofs.TwoRuns.{block_near, block_far, run_within}
use Rattle.fg_steal.proofs.claims.Claims.block_at.Goals as goal

module _ (counts lengths : List ℕ) (part place found : ℕ) (within : part < length counts) (are : lengths ≡ run_lengths counts) (is : found ≡ get_or lengths part found)
    (below : place < run_length counts (run_of counts part Far)) where
  at_far : (block_at counts (length counts + part, place) ≡ (part, found + place)) × (found + place < slice_index counts part) × (near_length (slice_index counts part) ≤ found + place)
  at_far =
      let inside : part < length lengths = omega (arith, run_within counts part Near within, ap length are) in
      block_far counts part place found within (is ∙ get_or_default lengths part found 0 inside ∙ ap (λ (l : List ℕ). slice_index l part) are) below

pub returns-in-Near-clause-block : goal.returns-in-Near-clause-block
returns-in-Near-clause-block c =
    let n = c.args.self.now.counts in
    (block_near n c.args.part c.args.place c.requires.part (subst (λ (run : Run). c.args.place < run_length n (run_of n c.args.part run)) c.in-Near.is c.requires.place)).0

pub returns-in-Near-clause-in_run : goal.returns-in-Near-clause-in_run
returns-in-Near-clause-in_run c =
    let n = c.args.self.now.counts in
    subst (λ (run : Run). IsInRun (slice_index n c.args.part) run c.args.place) (sym c.in-Near.is)
    (block_near n c.args.part c.args.place c.requires.part (subst (λ (run : Run). c.args.place < run_length n (run_of n c.args.part run)) c.in-Near.is c.requires.place)).1

pub overflow_add-result : goal.overflow_add-result
overflow_add-result c =
    let n = c.args.self.now.counts in
    let counts : c.self.inside.plan.counts.items ≡ n = ap (λ (claims : ClaimsValue). claims.counts) c.self.view_is in
    let below = subst (λ (run : Run). c.args.place < run_length n (run_of n c.args.part run)) c.in-Far.is c.requires.place in
    let far = at_far n c.self.inside.lengths.items c.args.part c.args.place c.index.result.now c.requires.part (c.self.invariant.1 ∙ ap run_lengths counts) c.index.ensures below in
    let few : slice_index n c.args.part < 2 ^ 32 = subst (λ (l : List ℕ). slice_index l c.args.part < 2 ^ 32) counts (c.self.invariant.6 c.args.part) in
    omega (arith, far.1, few)

pub returns-in-Far-clause-at : goal.returns-in-Far-clause-at
returns-in-Far-clause-at c =
    let n = c.args.self.now.counts in
    let counts : c.self.inside.plan.counts.items ≡ n = ap (λ (claims : ClaimsValue). claims.counts) c.self.view_is in
    let below = subst (λ (run : Run). c.args.place < run_length n (run_of n c.args.part run)) c.in-Far.is c.requires.place in
    let far = at_far n c.self.inside.lengths.items c.args.part c.args.place c.index.result.now c.requires.part (c.self.invariant.1 ∙ ap run_lengths counts) c.index.ensures below in
    sym (ap (λ (run : Run). block_at n (run_of n c.args.part run, c.args.place)) c.in-Far.is ∙ far.0)

pub returns-in-Far-clause-block : goal.returns-in-Far-clause-block
returns-in-Far-clause-block c =
    let n = c.args.self.now.counts in
    let counts : c.self.inside.plan.counts.items ≡ n = ap (λ (claims : ClaimsValue). claims.counts) c.self.view_is in
    let below = subst (λ (run : Run). c.args.place < run_length n (run_of n c.args.part run)) c.in-Far.is c.requires.place in
    (at_far n c.self.inside.lengths.items c.args.part c.args.place c.index.result.now c.requires.part (c.self.invariant.1 ∙ ap run_lengths counts) c.index.ensures below).1

pub returns-in-Far-clause-in_run : goal.returns-in-Far-clause-in_run
returns-in-Far-clause-in_run c =
    let n = c.args.self.now.counts in
    let counts : c.self.inside.plan.counts.items ≡ n = ap (λ (claims : ClaimsValue). claims.counts) c.self.view_is in
    let below = subst (λ (run : Run). c.args.place < run_length n (run_of n c.args.part run)) c.in-Far.is c.requires.place in
    subst (λ (run : Run). IsInRun (slice_index n c.args.part) run (c.index.result.now + c.args.place)) (sym c.in-Far.is)
    (at_far n c.self.inside.lengths.items c.args.part c.args.place c.index.result.now c.requires.part (c.self.invariant.1 ∙ ap run_lengths counts) c.index.ensures below).2

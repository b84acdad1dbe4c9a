-- How an iteration ends, by what its listed blocks told and what came of them.
use Rattle.std.proofs.Common.{◌≡◌, ℕ, ◌+◌, ◌≤◌, Bool, true, Option, None, Some, Result, Ok, Err, List, [], ◌∷◌, refl, subst, sym, ◌∙◌, arith}
use Rattle.std.proofs.lemmas.List.Elements.{All-head, All-tail}
use Rattle.std.proofs.lemmas.List.Sums.{sum_by-cons}
use Rattle.std.specs.Prelude.{All, IfErr, IfOk, IsPermutation, OnErr, OnOk, length}
use Rattle.std.specs.List.{sum_by}
use Rattle.fg_base.specs.declared.plain.BadEdge.{BadEdge}
use Rattle.fg_base.specs.declared.plain.VState.{VState}
use Rattle.fg_gather.specs.Gather.{IsIterated}
use Rattle.fg_gather.specs.Marks.{AreMarks}
use Rattle.fg_iter.proofs.JoinedLaws.{active_few, active_sum, bad_marked, mail_marked, needed_few, needed_sum, visits_marked}
use Rattle.fg_iter.specs.Crew.{IsSettled}
use Rattle.fg_iter.specs.Marked.{marked_blocks}
use Rattle.fg_iter.specs.Start.{HasEnded, HasRaised, HasReason, IsFinished, Start, begun, blocks_at, ended_as, ended_by, unfinished_of, visits_in}
use Rattle.fg_model.specs.declared.iteration.Counts.{Counts}
use Rattle.fg_model.specs.declared.mail.Mail.{Mail}
use Rattle.fg_model.specs.Engine.{HasCounted}
use Rattle.fg_model.specs.Graph.{IsWithinLimits}
use Rattle.fg_model.specs.Iteration.{AreStates, begun_at, first_bad}
use Rattle.fg_task.specs.Blocks.{HasCause}
use Rattle.fg_task.specs.declared.block_result.WorkFault.{WorkFault}
use Rattle.fg_task.specs.Spending.{Counted, SpentInAllUpTo}
use Rattle.fg_wave.specs.declared.told.Told.{Told}
use Rattle.fg_wave.specs.Waves.{HasMoreCome, HasRoomForList, IsTold, SpentAsTold}

-- where nothing is counted that isn't in the tally, both sums are 0
pub none_unsettled : (of : Counted → ℕ) (all : List Counted) → All (λ (spent : Counted). of spent ≡ 0) all → sum_by of all ≡ 0
none_unsettled of [] none = refl
none_unsettled of (spent ∷ all) none =
    omega (arith, sum_by-cons of spent all, All-head (λ one. of one ≡ 0) spent all none, none_unsettled of all (All-tail (λ one. of one ≡ 0) spent all none))

module _ (start : Start) (marks : List Bool) (right : AreMarks start.rules start.map start.phase start.states marks) (whole : length start.states ≡ start.map.n)
    (list : List ℕ) (all_marked : list ≡ marked_blocks marks) where
  abbrev counts_of : Told → Counts
  counts_of told = record { active = told.active; messages = told.sent }

  -- both counts of what begins
  pub begun_runs : sum_by (blocks_at start).active_of list ≡ length (begun start).active
  unfolding begun_at
  begun_runs = active_sum start marks right whole list all_marked

  pub begun_entries : sum_by (blocks_at start).needed_of list ≡ (begun start).messages
  unfolding begun_at
  begun_entries = needed_sum start marks right whole list all_marked

  -- a worker that counted nothing has room for all of it
  pub room_for_list : IsWithinLimits start.lists.graph → start.map.n ≡ start.lists.graph.n → (spent : Counted) → IsSettled spent → HasRoomForList (blocks_at start) list spent
  room_for_list limits vertices spent none = record {
    for_runs = omega (arith, none.runs, active_few start marks right whole list all_marked);
    for_entries = omega (arith, none.entries, needed_few start marks right whole list all_marked limits vertices);
  }

  module _ (told : Told) (is_told : IsTold (blocks_at start) list told) where
    -- without a bad edge both counts are told
    pub has_counted : told.bad ≡ None → HasCounted (counts_of told) (begun start)
    has_counted none = record { active_count = is_told.all_active none ∙ begun_runs; message_count = is_told.all_sent none ∙ begun_entries }

    -- what is told of a bad edge is the first of all
    pub first_told : start.lists.knows ≡ true → first_bad start.rules start.lists.graph start.phase start.states ≡ told.bad
    first_told knows = sym (is_told.bad knows ∙ bad_marked start marks right whole list all_marked)

    -- without one the iteration is finished, where what came was gathered
    pub is_finished : start.map.n ≡ start.lists.graph.n → told.bad ≡ None → (parts : List (List (Option ℕ))) (states : List VState)
        → HasMoreCome start.rules start.map (blocks_at start) list told [] parts → IsIterated start.rules start.map start.phase parts start.states states
        → IsFinished start (counts_of told) states
    unfolding begun_at
    is_finished vertices none parts states came iterated = record {
      is_iteration = λ knows. record {
        no_bad_edge = first_told knows ∙ none;
        next_states = iterated.is_after start.lists.graph came.mail
            (subst (λ (l : List Mail). IsPermutation l came.mail) (mail_marked start marks right whole list all_marked (first_told knows ∙ none)) (came.own knows none)) came.come;
        active_count = is_told.all_active none ∙ begun_runs;
        message_count = is_told.all_sent none ∙ begun_entries;
      };
      are_states = subst (λ (n : ℕ). AreStates n states) vertices (iterated.states came.mail came.come);
      counted = has_counted none;
    }

  reason_of : {F : Type 0} (caused : F → Type 0) (fault : WorkFault F) → HasCause caused fault → HasReason caused start (unfinished_of fault)
  reason_of caused WorkFault.Memory cause = tt
  reason_of caused (WorkFault.Fault fault) cause = cause

  -- so it ends as it should, whatever the answer of its blocks
  pub has_ended : {F : Type 0} (caused : F → Type 0) (answer : Result Told (WorkFault F)) (parts : List (List (Option ℕ))) (states : List VState)
      → start.map.n ≡ start.lists.graph.n
      → IfOk answer (λ (told : Told). IsTold (blocks_at start) list told)
      → IfOk answer (λ (told : Told). HasMoreCome start.rules start.map (blocks_at start) list told [] parts)
      → IfErr answer (λ (fault : WorkFault F). HasCause caused fault)
      → OnOk (ended_as answer) (IsIterated start.rules start.map start.phase parts start.states states)
      → OnErr (ended_as answer) (states ≡ start.states)
      → HasEnded caused start (ended_as answer) states
  has_ended caused (Err fault) parts states vertices is_told came cause iterated same = (same, reason_of caused fault cause)
  has_ended {F} caused (Ok told) parts states vertices is_told came cause iterated same = by_bad told.bad refl iterated same
    where
      by_bad : (bad : Option BadEdge) → told.bad ≡ bad → OnOk (ended_by bad {F = F} told) (IsIterated start.rules start.map start.phase parts start.states states)
          → OnErr (ended_by bad {F = F} told) (states ≡ start.states) → HasEnded caused start (ended_by bad {F = F} told) states
      by_bad None none iterated same = is_finished told is_told vertices none parts states came iterated
      by_bad (Some bad) some iterated same = (same, λ knows. first_told told is_told knows ∙ some)

  -- and both counts rise as they should, where nothing was counted before
  pub has_raised : {F : Type 0} (answer : Result Told (WorkFault F)) (old new : List Counted) (runs entries new_runs new_entries : ℕ)
      → All IsSettled old
      → SpentInAllUpTo (blocks_at start) list old new
      → IfOk answer (λ (told : Told). SpentAsTold (blocks_at start) list old new told)
      → new_runs ≡ runs + sum_by (λ (spent : Counted). spent.runs) new
      → new_entries ≡ entries + sum_by (λ (spent : Counted). spent.entries) new
      → HasRaised start (ended_as answer) runs entries new_runs new_entries
  has_raised {F} answer old new runs entries new_runs new_entries settled few exact is_runs is_entries = record {
    few_runs = record { at_least = omega (arith, is_runs); at_most = omega (arith, is_runs, few.few_runs, no_runs, begun_runs) };
    few_entries = record { at_least = omega (arith, is_entries); at_most = omega (arith, is_entries, few.few_entries, no_entries, begun_entries) };
    ok_runs = runs_told answer exact;
    ok_entries = entries_told answer exact;
  }
    where
      no_runs : sum_by (λ (spent : Counted). spent.runs) old ≡ 0
      no_runs = none_unsettled (λ (spent : Counted). spent.runs) old (λ k d below. (settled k d below).runs)

      no_entries : sum_by (λ (spent : Counted). spent.entries) old ≡ 0
      no_entries = none_unsettled (λ (spent : Counted). spent.entries) old (λ k d below. (settled k d below).entries)

      runs_by : (told : Told) → SpentAsTold (blocks_at start) list old new told → (bad : Option BadEdge) → IfOk (ended_by bad {F = F} told) (λ (counts : Counts). new_runs ≡ runs + counts.active)
      runs_by told spent None = omega (arith, is_runs, spent.runs, no_runs)
      runs_by told spent (Some bad) = tt

      entries_by : (told : Told) → SpentAsTold (blocks_at start) list old new told → (bad : Option BadEdge) → IfOk (ended_by bad {F = F} told) (λ (counts : Counts). new_entries ≡ entries + counts.messages)
      entries_by told spent None = omega (arith, is_entries, spent.entries, no_entries)
      entries_by told spent (Some bad) = tt

      runs_told : (one : Result Told (WorkFault F)) → IfOk one (λ (told : Told). SpentAsTold (blocks_at start) list old new told)
          → IfOk (ended_as one) (λ (counts : Counts). new_runs ≡ runs + counts.active)
      runs_told (Err fault) spent = tt
      runs_told (Ok told) spent = runs_by told spent told.bad

      entries_told : (one : Result Told (WorkFault F)) → IfOk one (λ (told : Told). SpentAsTold (blocks_at start) list old new told)
          → IfOk (ended_as one) (λ (counts : Counts). new_entries ≡ entries + counts.messages)
      entries_told (Err fault) spent = tt
      entries_told (Ok told) spent = entries_by told spent told.bad

  -- and a finished one visited the pages of its needed lists
  pub has_visited : {F : Type 0} (answer : Result Told (WorkFault F)) (old new : List Counted) → start.lists.visits start.rules [] ≡ 0
      → IfOk answer (λ (told : Told). SpentAsTold (blocks_at start) list old new told)
      → OnOk (ended_as answer) (sum_by (λ (spent : Counted). spent.hits) old + visits_in start ≤ sum_by (λ (spent : Counted). spent.hits) new)
  unfolding begun_at
  has_visited (Err fault) old new none spent = tt
  has_visited {F} (Ok told) old new none spent = by_bad told.bad refl
    where
      by_bad : (bad : Option BadEdge) → told.bad ≡ bad
          → OnOk (ended_by bad {F = F} told) (sum_by (λ (one : Counted). one.hits) old + visits_in start ≤ sum_by (λ (one : Counted). one.hits) new)
      by_bad None fine = omega (arith, spent.hits fine, visits_marked start marks right whole list all_marked none)
      by_bad (Some bad) some = tt

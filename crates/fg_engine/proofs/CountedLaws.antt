-- A tally's rise, seen between other values with the same numbers.
use Rattle.std.proofs.Common.{◌≡◌, ℕ, true, Bool, List, Result, Ok, Err, OnOk, length, subst, arith}
use Rattle.fg_model.specs.declared.run.End.{End}
use Rattle.fg_model.specs.declared.run.RunFault.{RunFault}
use Rattle.fg_model.specs.Engine.{HasTallied, RoseWith, TallyRoseWith, Went}
use Rattle.fg_model.specs.Iteration.{Begun}
use Rattle.fg_model.specs.Run.{Finished}

module _ {T : Type 0} (runs entries : T → ℕ) (a b c d : T) (first_runs : runs a ≡ runs c) (last_runs : runs b ≡ runs d)
    (first_entries : entries a ≡ entries c) (last_entries : entries b ≡ entries d) where
  rose-same : (begun : List Begun) → TallyRoseWith runs entries a b begun → TallyRoseWith runs entries c d begun
  rose-same begun rose = record {
    runs_rose =
        let active : Begun → ℕ = λ one. length one.active in
        subst (λ (n : ℕ). RoseWith active begun (runs c) n) last_runs (subst (λ (n : ℕ). RoseWith active begun n (runs b)) first_runs rose.runs_rose);
    entries_rose =
        let messages : Begun → ℕ = λ one. one.messages in
        subst (λ (n : ℕ). RoseWith messages begun (entries c) n) last_entries (subst (λ (n : ℕ). RoseWith messages begun n (entries b)) first_entries rose.entries_rose);
  }

  pub went-same : (read : List Begun → Type 0) (knows : Bool) (answer : Result End RunFault) (all : List Begun)
      → Went read (TallyRoseWith runs entries a b) knows answer all → Went read (TallyRoseWith runs entries c d) knows answer all
  went-same read knows answer all went = record {
    begun = went.begun;
    was_read = went.was_read;
    was_counted = rose-same went.begun went.was_counted;
    are_first = went.are_first;
    are_all = went.are_all;
  }

  pub tallied-same : (knows : Bool) (answer : Result End RunFault) (finished : List Finished)
      → OnOk answer (knows ≡ true → HasTallied runs entries a b finished) → OnOk answer (knows ≡ true → HasTallied runs entries c d finished)
  tallied-same knows (Err fault) finished tallied = tt
  tallied-same knows (Ok end) finished tallied = λ told. record {
    runs_rose = omega (arith, first_runs, last_runs, (tallied told).runs_rose);
    entries_rose = omega (arith, first_entries, last_entries, (tallied told).entries_rose);
  }

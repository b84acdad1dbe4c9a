-- What writing generated edges promises.
use Rattle.std.specs.Prelude.{◌≡◌, ℕ, None}
use Rattle.fg_text.specs.Generator.{generated_text}
use Rattle.fg_top.specs.Ends.{IsWritten}
use Rattle.fg_top.specs.Outcome.{Done, Outcome, at_once}
use Rattle.fg_top.specs.Promise.{Promise, alone}

-- the text of so many generated edges between so many vertices
abbrev pub GenComesTo : ℕ → ℕ → ℕ → Outcome → Type 0
GenComesTo start nodes edges outcome = outcome ≡ at_once (Done (generated_text start nodes edges))

-- the promise: the job is never refused, so its text was written, or a put or the flush failed
abbrev pub gen_promise : {D : Type 0} → ℕ → ℕ → ℕ → Promise D
gen_promise {D} start nodes edges =
    let other : Promise D = alone (λ call. GenComesTo start nodes edges) in
    record other { writes = λ output status. IsWritten output None (generated_text start nodes edges) status }

-- What an object of the outside tells of its content: its list, or nothing where it doesn't tell. Each change is an
-- equation that holds either way.
use Rattle.std.specs.Prelude.{◌≡◌, ℕ, Option, None, Some, List, ◌++◌, All, take}

-- what is told, after `more` was added behind it
abbrev pub grown : {A : Type 0} → Option (List A) → List A → Option (List A)
grown None more = None
grown (Some told) more = Some (told ++ more)

-- what is told, with `front` put before it: what was left before `front` was taken
abbrev pub led_by : {A : Type 0} → List A → Option (List A) → Option (List A)
led_by front None = None
led_by front (Some rest) = Some (front ++ rest)

-- what is told grew by some first items of `whole`
abbrev pub GrewByFirst : {A : Type 0} → List A → Option (List A) → Option (List A) → Type 0
GrewByFirst whole old new = (k : ℕ) × (new ≡ grown old (take k whole))

-- what is told grew by items that all have the property
abbrev pub GrewBy : {A : Type 0} → (A → Type 0) → Option (List A) → Option (List A) → Type 0
GrewBy {A} P old new = (more : List A) × All P more × (new ≡ grown old more)

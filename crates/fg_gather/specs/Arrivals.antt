-- What came to the vertices of a graph, part by part.
use Rattle.std.specs.Prelude.{◌≡◌, ℕ, ◌^◌, ◌<◌, ◌++◌, Option, List, [], All, IfSome, fold, length, map as each, slice_index_or}
use Rattle.fg_base.specs.declared.plain.VState.{VState}
use Rattle.fg_batch.specs.Inbox.{AreEmpty, AreOpen, Holding, held_at, received}
use Rattle.fg_model.specs.declared.mail.Mail.{Mail}
use Rattle.fg_model.specs.Iteration.{sent_to}
use Rattle.fg_model.specs.Program.{IsInRange, Rules}
use Rattle.fg_part.specs.declared.part_map.PartMap.{PartMap}
use Rattle.fg_part.specs.PartMap.{part_of, places_in}

-- the program whose messages come, and what the places of each part hold
pub record Arrivals (P : Type 0) : Type 0 where
  pub program : P
  pub map : PartMap
  pub parts : List (List (Option ℕ))

-- what came to a vertex: the number that the messages to it combine to, or none
abbrev pub came_to : PartMap → List (List (Option ℕ)) → ℕ → Option ℕ
came_to map parts v = held_at map (slice_index_or parts (part_of map v) []) v

-- numbers below 2^64
abbrev pub AreFit : List Mail → Type 0
AreFit mail = All (λ (one : Mail). one.message < 2 ^ 64) mail

-- these messages came: to fold in what came to a vertex is to fold in each message to it, whatever its state
pub record HasCome (P : Rules) (map : PartMap) (parts : List (List (Option ℕ))) (mail : List Mail) : Type 0 where
  pub all_fit : AreFit mail
  pub number_fits : (v : ℕ) → v < map.n → IfSome (came_to map parts v) (λ (number : ℕ). number < 2 ^ 64)
  pub folds : (v : ℕ) (s : VState) → v < map.n → IsInRange s → received P (came_to map parts v) s ≡ fold P.receive s (sent_to v mail)

-- with these messages more, whatever came before
abbrev pub Brings : Rules → PartMap → List Mail → List (List (Option ℕ)) → List (List (Option ℕ)) → Type 0
Brings P map more old new = (before : List Mail) → AreFit more → HasCome P map old before → HasCome P map new (before ++ more)

-- the inbox of a part
pub record IsInboxOf {P : Type 0} (program : P) (map : PartMap) (part : ℕ) (inbox : Holding P) : Type 0 where
  pub same_program : inbox.program ≡ program
  pub same_map : inbox.map ≡ map
  pub own : inbox.part ≡ part
  pub count : length inbox.held ≡ places_in map part

-- one for each part, in order
pub record AreInboxes {P : Type 0} (program : P) (map : PartMap) (inboxes : List (Holding P)) : Type 0 where
  pub one_each : length inboxes ≡ map.parts
  pub each_own : (part : ℕ) (d : Holding P) → part < map.parts → IsInboxOf program map part (slice_index_or inboxes part d)

-- what the places of each inbox hold
abbrev pub held_in_each : {P : Type 0} → List (Holding P) → List (List (Option ℕ))
held_in_each inboxes = each (λ inbox. inbox.held) inboxes

-- nothing came to the part
abbrev pub HasNone : {P : Type 0} → Holding P → Type 0
HasNone inbox = AreEmpty inbox.held

-- an inbox that was emptied
pub record IsEmptied {P : Type 0} (old new : Holding P) : Type 0 where
  pub same_program : new.program ≡ old.program
  pub same_map : new.map ≡ old.map
  pub same_part : new.part ≡ old.part
  pub nothing : AreOpen old.map old.part new.held

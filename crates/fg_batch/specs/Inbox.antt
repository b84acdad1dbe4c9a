-- What came to a part: at each place the one number that all messages to its vertex combine to.
use Rattle.std.specs.Prelude.{◌≡◌, ℕ, ◌+◌, ◌*◌, ◌^◌, ◌<◌, ◌≤◌, Bool, Option, Some, None, List, All, fold, length, map as each, slice_index_or, slice_set, if◌then◌else◌}
use Rattle.std.specs.List.{range_with_len}
use Rattle.fg_base.specs.declared.plain.VState.{VState}
use Rattle.fg_batch.specs.Bits.{AreFlagged, is_in}
use Rattle.fg_batch.specs.Lanes.{IsFor}
use Rattle.fg_model.specs.declared.mail.Mail.{Mail}
use Rattle.fg_model.specs.Iteration.{AreStates, sent_to, state_at}
use Rattle.fg_model.specs.Program.{Rules}
use Rattle.fg_part.specs.declared.part_map.PartMap.{PartMap}
use Rattle.fg_part.specs.PartMap.{block_size, blocks_in, part_of, place_of, places_in}

-- the program whose messages come, the part, and what each place holds
pub record Holding (P : Type 0) : Type 0 where
  pub program : P
  pub map : PartMap
  pub part : ℕ
  pub held : List (Option ℕ)

-- a number with one more combined into it
abbrev pub joined : Rules → Option ℕ → ℕ → ℕ
joined P None message = message
joined P (Some number) message = P.combine number message

-- what the place of a vertex holds
abbrev pub held_at : PartMap → List (Option ℕ) → ℕ → Option ℕ
held_at map held v = slice_index_or held (place_of map v) None

-- a message is combined into what the place of its target holds
abbrev pub with_mail : Rules → PartMap → List (Option ℕ) → Mail → List (Option ℕ)
with_mail P map held mail = slice_set held (place_of map mail.target) (Some (joined P (held_at map held mail.target) mail.message))

-- one message after the other
abbrev pub with_all : Rules → PartMap → List (Option ℕ) → List Mail → List (Option ℕ)
with_all P map held mails = fold (with_mail P map) held mails

-- all places hold nothing
abbrev pub AreEmpty : List (Option ℕ) → Type 0
AreEmpty held = All (λ place. place ≡ None) held

-- a state with what came folded in
abbrev pub received : Rules → Option ℕ → VState → VState
received P None s = s
received P (Some number) s = P.receive s number

-- the state of each vertex of the part has what its place holds folded in, and every other one is as it was
pub record IsFoldedInto (P : Rules) (map : PartMap) (part : ℕ) (held : List (Option ℕ)) (old new : List VState) : Type 0 where
  pub count : length new ≡ length old
  pub own : (v : ℕ) → v < map.n → part_of map v ≡ part → state_at new v ≡ received P (held_at map held v) (state_at old v)
  pub other : (v : ℕ) → v < map.n → (part_of map v ≡ part → ⊥) → state_at new v ≡ state_at old v

-- the state of each vertex of the part has the messages to it folded in one by one, and every other one is as it was
pub record HasEachFolded (P : Rules) (map : PartMap) (part : ℕ) (mail : List Mail) (old new : List VState) : Type 0 where
  pub count : length new ≡ length old
  pub own : (v : ℕ) → v < map.n → part_of map v ≡ part → state_at new v ≡ fold P.receive (state_at old v) (sent_to v mail)
  pub other : (v : ℕ) → v < map.n → (part_of map v ≡ part → ⊥) → state_at new v ≡ state_at old v

-- messages to vertices of the part, whose numbers are below 2^64
pub record ArePartMail (map : PartMap) (part : ℕ) (mail : List Mail) : Type 0 where
  pub all_own : All (IsFor map part) mail
  pub all_fit : All (λ (one : Mail). one.message < 2 ^ 64) mail

-- places that hold nothing, one for each of the part's
pub record AreOpen (map : PartMap) (part : ℕ) (held : List (Option ℕ)) : Type 0 where
  pub count : length held ≡ places_in map part
  pub none : AreEmpty held

-- whatever comes to a part that held nothing, its fold is that of each message by itself
abbrev pub FoldsEach : Rules → PartMap → ℕ → Type 0
FoldsEach P map part =
    (mail : List Mail) (held : List (Option ℕ)) (old new : List VState) → ArePartMail map part mail → AreOpen map part held → AreStates map.n old
    → IsFoldedInto P map part (with_all P map held mail) old new → HasEachFolded P map part mail old new

-- the numbers at the places that are in the set
abbrev pub held_by : List ℕ → List ℕ → List (Option ℕ)
held_by numbers came = each (λ k. if is_in came k then Some (slice_index_or numbers k 0) else None) (range_with_len 0 (length numbers))

-- the part is one of the map's, and has a number and a bit for each of its places, and a flag for each of its blocks
pub record IsInbox (map : PartMap) (part : ℕ) (numbers came : List ℕ) (flags : List Bool) : Type 0 where
  pub own : part < map.parts
  pub count : length numbers ≡ places_in map part
  pub enough : length numbers ≤ length came * 64
  pub few : length came ≤ 2 ^ 40
  pub flag_count : length flags ≡ blocks_in map part
  pub flagged : AreFlagged (block_size map) flags came

-- what came to the place k of a block of the part
abbrev pub held_in : PartMap → List (Option ℕ) → ℕ → ℕ → Option ℕ
held_in map held number k = slice_index_or held (number * block_size map + k) None

-- the states of a block have what came to its places folded in
pub record HasBlockFolded (P : Rules) (map : PartMap) (number : ℕ) (held : List (Option ℕ)) (old new : List VState) : Type 0 where
  pub count : length new ≡ length old
  pub each : (k : ℕ) → k < length old → state_at new k ≡ received P (held_in map held number k) (state_at old k)

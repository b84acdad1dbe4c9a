-- An index as contracts see it, and as bytes: the out-lists' direction, then the in-lists', and nothing behind.
use Rattle.std.specs.Prelude.{◌≡◌, ℕ, Bool, List, Result, Ok, Err, ◌+◌, ◌*◌, nat_lt, length, take, drop, sum, slice_index, if◌then◌else◌}
use Rattle.fg_base.specs.declared.plain.Dir.{Dir}
use Rattle.fg_base.specs.declared.plain.Dir.TheVariants.{Out, In}
use Rattle.fg_base.specs.declared.refusal.Refusal.{Refusal}
use Rattle.fg_base.specs.declared.refusal.Refusal.TheVariants.{Memory, BadIndex}
use Rattle.fg_index.specs.declared.span.Span.{Span}
use Rattle.fg_index.specs.Direction.{direction_len, direction_at}

-- whether entries have weights, and each vertex's degree in both directions
pub record ImageIndex : Type 0 where
  pub weighted : Bool
  pub outs : List ℕ
  pub ins : List ℕ

-- the degrees in one direction
abbrev pub degrees_in : ImageIndex → Dir → List ℕ
degrees_in index Out = index.outs
degrees_in index In = index.ins

-- the bytes of an entry
abbrev pub entry_bytes : Bool → ℕ
entry_bytes weighted = if weighted then 8 else 4

-- where a vertex's list stands in its section: behind the lists of all vertices below it
abbrev pub span_of : ImageIndex → Dir → ℕ → Span
span_of index dir v = record {
  start = sum (take v (degrees_in index dir)) * entry_bytes index.weighted;
  len = slice_index (degrees_in index dir) v * entry_bytes index.weighted;
}

-- a direction that begins at this place
abbrev pub placed : Dir → ℕ → Result (List ℕ) ℕ → Result (List ℕ) (Dir × ℕ)
placed dir start (Ok degrees) = Ok degrees
placed dir start (Err place) = Err (dir, start + place)

-- both directions, or the first fault
abbrev pub both : Result (List ℕ) (Dir × ℕ) → Result (List ℕ) (Dir × ℕ) → Result (List ℕ × List ℕ) (Dir × ℕ)
both (Err fault) ins = Err fault
both (Ok outs) (Err fault) = Err fault
both (Ok outs) (Ok ins) = Ok (outs, ins)

-- nothing is left over from this place on
abbrev pub ended : ℕ → List ℕ → Result (List ℕ × List ℕ) (Dir × ℕ) → Result (List ℕ × List ℕ) (Dir × ℕ)
ended end bytes (Err fault) = Err fault
ended end bytes (Ok found) = if nat_lt end (length bytes) then Err (In, end) else Ok found

-- the degrees of the n vertices whose index these bytes are, with so many out-entries and in-entries; or the direction and the
-- place of the first fault
unfoldable pub index_at : ℕ → ℕ → ℕ → List ℕ → Result (List ℕ × List ℕ) (Dir × ℕ)
index_at n outs ins bytes =
    let middle = direction_len n bytes in
    let end = middle + direction_len n (drop middle bytes) in
    ended end bytes (both (placed Out 0 (direction_at n outs bytes)) (placed In middle (direction_at n ins (drop middle bytes))))

-- the refusal is the fault that was found; want of memory has no cause here, and no other refusal comes
abbrev pub IsFaultOf : {X : Type 0} → Result X (Dir × ℕ) → Refusal → Type 0
IsFaultOf found Memory = Unit {0}
IsFaultOf found (BadIndex dir place) = found ≡ Err (dir, place)
IsFaultOf found refusal = ⊥

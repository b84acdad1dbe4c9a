-- A program's name is short.
use Rattle.std.proofs.Common.{ℕ, ◌≤◌, List, [], ◌∷◌, All, Contains, length, lit≤}
use Rattle.std.specs.Prelude.{codes}
use Rattle.std.proofs.lemmas.List.Elements.{All-cons, All-contains, All-nil}
use Rattle.fg_report.specs.Lines.{program_names}

abbrev IsShort : List ℕ → Type 0
IsShort text = length text ≤ 4

short-1 : All IsShort (codes "rank" ∷ [])
short-1 = All-cons IsShort (codes "rank") [] (lit≤ tt) (All-nil IsShort)

short-2 : All IsShort (codes "core" ∷ codes "rank" ∷ [])
short-2 = All-cons IsShort (codes "core") (codes "rank" ∷ []) (lit≤ tt) short-1

short-3 : All IsShort (codes "wcc" ∷ codes "core" ∷ codes "rank" ∷ [])
short-3 = All-cons IsShort (codes "wcc") (codes "core" ∷ codes "rank" ∷ []) (lit≤ tt) short-2

short-4 : All IsShort (codes "sssp" ∷ codes "wcc" ∷ codes "core" ∷ codes "rank" ∷ [])
short-4 = All-cons IsShort (codes "sssp") (codes "wcc" ∷ codes "core" ∷ codes "rank" ∷ []) (lit≤ tt) short-3

short-5 : All IsShort program_names
short-5 = All-cons IsShort (codes "bfs") (codes "sssp" ∷ codes "wcc" ∷ codes "core" ∷ codes "rank" ∷ []) (lit≤ tt) short-4

pub name_is_short : (name : List ℕ) → Contains program_names name → length name ≤ 4
name_is_short name is_name = All-contains IsShort program_names name short-5 is_name

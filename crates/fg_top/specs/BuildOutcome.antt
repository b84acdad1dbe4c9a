-- What building an image from a text comes to where memory suffices and no drive and no output fails.
use Rattle.std.specs.Prelude.{◌≡◌, ◌<◌, ℕ, ◌/◌, Bool, true, false, Option, None, Some, IfSome, Result, Ok, Err, List, [], ◌++◌, ◌⊎◌, codes, decimal, length}
use Rattle.fg_base.specs.Faults.{Rose}
use Rattle.fg_base.specs.declared.limits.TheConstants.{PAGE_BYTES}
use Rattle.fg_base.specs.declared.refusal.Refusal.{Refusal}
use Rattle.fg_build.specs.Building.{AreEmpty, IsFirstFull}
use Rattle.fg_image.specs.Made.{image_bytes}
use Rattle.fg_model.specs.Edges.{AreEdges, EdgeList}
use Rattle.fg_text.specs.Text.{read_text}
use Rattle.fg_top.specs.Calls.{Input}
use Rattle.fg_top.specs.Outcome.{Close, Done, Outcome, Refuses}

-- whether edges have weights, as it is written
abbrev pub kind_text : Bool → List ℕ
kind_text true = codes "weighted"
kind_text false = codes "plain"

-- the vertices, and the entries of either direction
abbrev pub counts_text : ℕ → ℕ → ℕ → List ℕ
counts_text vertices outs ins = codes "vertices " ++ decimal vertices ++ codes " out " ++ decimal outs ++ codes " in " ++ decimal ins

-- whether edges have weights, and the pages of their image over so many drives
abbrev pub image_text : Bool → ℕ → ℕ → List ℕ
image_text weighted pages drives = codes " " ++ kind_text weighted ++ codes " pages " ++ decimal pages ++ codes " drives " ++ decimal drives

-- the line of edges that were built over so many drives, with its end
abbrev pub built_line : ℕ → EdgeList → List ℕ
built_line drives edges =
    codes "built " ++ counts_text edges.n (length edges.pairs) (length edges.pairs) ++ image_text edges.weighted (length (image_bytes edges) / PAGE_BYTES) drives ++ codes "\n"

-- how a build over so many drives closes, by what its text says
abbrev pub close_of_text : ℕ → Result EdgeList Refusal → Close
close_of_text drives (Err refusal) = Refuses refusal
close_of_text drives (Ok edges) = Done (built_line drives edges)

-- the text is the line of some edges
pub record IsBuiltLine (drives : ℕ) (text : List ℕ) : Type 0 where
  pub edges : EdgeList
  pub are_edges : AreEdges edges
  pub is_line : text ≡ built_line drives edges

-- how a build may close by its text where the source doesn't tell that: done with the line of some edges, or refused for what
-- a text may say
abbrev pub MayCloseText : ℕ → Close → Type 0
MayCloseText drives (Done text) = IsBuiltLine drives text
MayCloseText drives (Refuses (Refusal.BadLine line)) = Unit {0}
MayCloseText drives (Refuses (Refusal.IdTooLarge line)) = Unit {0}
MayCloseText drives (Refuses (Refusal.TooManyEdges line)) = Unit {0}
MayCloseText drives (Refuses Refusal.TextTooLong) = Unit {0}
MayCloseText drives (Refuses refusal) = ⊥

-- a build closes so by its text, as far as the source tells that
abbrev pub ClosesByText : ℕ → Bool → Option (List ℕ) → Close → Type 0
ClosesByText drives undirected None close = MayCloseText drives close
ClosesByText drives undirected (Some bytes) close = close ≡ close_of_text drives (read_text undirected bytes)

-- by its input: refused where the source's count of faults rose; where that stood, the text decides
abbrev pub ClosesByInput : ℕ → Bool → Input → Close → Type 0
ClosesByInput drives undirected input close =
    (Rose input.old_faults input.new_faults × (close ≡ Refuses Refusal.InputFault))
    ⊎ ((input.new_faults ≡ input.old_faults) × ClosesByText drives undirected input.old_left close)

-- by its drives, as far as they tell what they hold: refused for the first that holds a whole page, in any case for one of them;
-- where none does, the input decides
abbrev pub ClosesByDrives : ℕ → Bool → Option (List (List ℕ)) → Input → Close → Type 0
ClosesByDrives drives undirected told input close =
    ((drive : ℕ) × (drive < drives) × IfSome told (IsFirstFull drive) × (close ≡ Refuses (Refusal.NotEmpty drive)))
    ⊎ (IfSome told AreEmpty × ClosesByInput drives undirected input close)

-- a build over so many drives comes to this outcome, by what the drives tell of their bytes and by its input: it writes nothing but how it
-- closes
abbrev pub BuildComesTo : ℕ → Bool → Option (List (List ℕ)) → Input → Outcome → Type 0
BuildComesTo drives undirected told input outcome = (outcome.lines ≡ []) × ClosesByDrives drives undirected told input outcome.close

-- What a build leaves on its drives.
use Rattle.std.specs.Prelude.{◌≡◌, ℕ, Bool, Option, None, Some, IfSome, Ok, Err, Result, List, ◌⊎◌}
use Rattle.fg_base.specs.declared.refusal.Refusal.{Refusal}
use Rattle.fg_base.specs.declared.refusal.Refusal.TheVariants.{DriveFault}
use Rattle.fg_build.specs.Building.{AreEmpty, HoldFirst, HoldImage, RoomyKeptForImage}
use Rattle.fg_build.specs.Layouts.{Plan}
use Rattle.fg_model.specs.Edges.{AreEdges, EdgeList}
use Rattle.fg_outside.specs.Drives.{EachSame, NoneRose, RoomyKept, RoseFirst, all_told}
use Rattle.fg_text.specs.Text.{read_text}
use Rattle.fg_top.specs.BuildOutcome.{built_line}
use Rattle.fg_top.specs.Calls.{Input}

-- these are the edges of the text that was left in the source, where it tells that
pub record AreOfText (undirected : Bool) (left : Option (List ℕ)) (edges : EdgeList) : Type 0 where
  pub are_edges : AreEdges edges
  pub says : IfSome left (λ bytes. read_text undirected bytes ≡ Ok edges)

-- these edges may be built: drives that tell what they hold held no whole page, the source didn't fail, and its text says the
-- edges
pub record MayBuild {D : Type 0} (held : D → Option (List ℕ)) (undirected : Bool) (input : Input) (olds : List D) (edges : EdgeList) : Type 0 where
  pub empty : IfSome (all_told held olds) AreEmpty
  pub stood : input.new_faults ≡ input.old_faults
  pub of_text : AreOfText undirected input.old_left edges

-- no drive failed, and each holds its part of the image of the text's edges behind what it held
pub record AreBuilt {D : Type 0} (held : D → Option (List ℕ)) (faults : D → ℕ) (plan : Plan) (undirected : Bool) (input : Input) (olds news : List D) : Type 0 where
  pub edges : EdgeList
  pub may : MayBuild held undirected input olds edges
  pub holds : HoldImage held plan edges olds news
  pub kept : NoneRose faults olds news

-- the same, and the line is that of these edges
pub record AreBuiltAsWritten {D : Type 0} (held : D → Option (List ℕ)) (faults : D → ℕ) (plan : Plan) (undirected : Bool) (input : Input) (olds news : List D) (line : List ℕ) : Type 0 where
  pub built : AreBuilt held faults plan undirected input olds news
  pub is_line : line ≡ built_line plan.drives built.edges

-- this drive is the first that failed, and each holds a first part of that
pub record ArePartlyBuilt {D : Type 0} (held : D → Option (List ℕ)) (faults : D → ℕ) (failed : ℕ) (plan : Plan) (undirected : Bool) (input : Input) (olds news : List D) : Type 0 where
  pub edges : EdgeList
  pub may : MayBuild held undirected input olds edges
  pub holds : HoldFirst held plan edges olds news
  pub rose : RoseFirst faults failed olds news

-- the drives hold what they held, or the image behind it, whole where none of them failed
abbrev pub AreLeft : {D : Type 0} → (D → Option (List ℕ)) → (D → ℕ) → Plan → Bool → Input → List D → List D → Type 0
AreLeft held faults plan undirected input olds news =
    EachSame held olds news
    ⊎ (AreBuilt held faults plan undirected input olds news
    ⊎ ((failed : ℕ) × ArePartlyBuilt held faults failed plan undirected input olds news))

-- what they hold by what ended the work, and its text: where nothing did, the image of the edges whose line that is; what they
-- held, or a first part of the image, where a drive failed, before the first append or from there on; and what they held where
-- the build was refused otherwise
abbrev pub BuildLeaves : {D : Type 0} → (D → Option (List ℕ)) → (D → ℕ) → Plan → Bool → Input → List D → List D → Option Refusal → List ℕ → Type 0
BuildLeaves held faults plan undirected input olds news None text = AreBuiltAsWritten held faults plan undirected input olds news text
BuildLeaves held faults plan undirected input olds news (Some (DriveFault drive)) text =
    EachSame held olds news ⊎ ArePartlyBuilt held faults drive plan undirected input olds news
BuildLeaves held faults plan undirected input olds news (Some refusal) text = EachSame held olds news

-- what a drive that tells its room surely does, whatever the others do: it doesn't fail where it has room for its part of the
-- image, or where there is no image
abbrev pub IsKeptBy : {D : Type 0} → (D → Option ℕ) → (D → ℕ) → Plan → List D → List D → Result EdgeList Refusal → Type 0
IsKeptBy room faults plan olds news (Err refusal) = RoomyKept room faults olds news
IsKeptBy room faults plan olds news (Ok edges) = RoomyKeptForImage room faults plan edges olds news

abbrev pub IsKeptByBuild : {D : Type 0} → (D → Option ℕ) → (D → ℕ) → Plan → Bool → Option (List ℕ) → List D → List D → Type 0
IsKeptByBuild room faults plan undirected left olds news = IfSome left (λ bytes. IsKeptBy room faults plan olds news (read_text undirected bytes))

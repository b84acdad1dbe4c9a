-- How helpers end, and what is said of work beside them.
use denote.Ref.{MutBor}
use denote.Param.Members.{Once}
use Rattle.std.specs.Prelude.{◌≡◌, ℕ, ◌<◌, ◌++◌, Option, None, Some, List, [], ◌∷◌, length, slice_index_or}
use Rattle.fg_books.specs.Shares.{BooksId}
use Rattle.fg_cache.specs.Slips.{FaultOf}
use Rattle.fg_crew.specs.Slots.{Has}
use Rattle.fg_engine.specs.declared.helping.LoopEnd.{LoopEnd}

-- a loop ended by the flag, or with a share of a fault of this drive, which stands in these books
abbrev pub IsEndOf : BooksId → ℕ → LoopEnd → Type 0
IsEndOf books drive (LoopEnd.Stopped slip) = Unit {0}
IsEndOf books drive (LoopEnd.Fault share) = share ≡ record { books = books; drive = drive }

-- the helper of a drive has ended so
abbrev pub EndOf : BooksId → ℕ → Option LoopEnd → Type 0
EndOf books drive None = ⊥
EndOf books drive (Some end) = IsEndOf books drive end

-- the helpers of so many drives have ended, each in its place
pub record AreEnds (books : BooksId) (count : ℕ) (ends : List (Option LoopEnd)) : Type 0 where
  pub count_is : length ends ≡ count
  pub each : (k : ℕ) (d : Option LoopEnd) → k < count → EndOf books k (slice_index_or ends k d)

-- the share of a helper whose drive failed
abbrev pub share_in : Option LoopEnd → Option FaultOf
share_in None = None
share_in (Some (LoopEnd.Stopped slip)) = None
share_in (Some (LoopEnd.Fault share)) = Some share

abbrev pub as_list : Option FaultOf → List FaultOf
as_list None = []
as_list (Some share) = share ∷ []

-- those of all these helpers
abbrev pub shares_in : List (Option LoopEnd) → List FaultOf
shares_in [] = []
shares_in (end ∷ ends) = as_list (share_in end) ++ shares_in ends

module _ {F G A B R : Type 0} (g : Once F (G × (MutBor A × (MutBor B × Unit {0}))) (R × (MutBor A × (MutBor B × Unit {0})))) where
  -- the work may be done on what is given and at a `&mut` to x and one to y
  abbrev pub MayDo : F → G → A → B → Type 0
  MayDo work given x y = (p : MutBor A) (q : MutBor B) → p.now ≡ x → q.now ≡ y → g.pre work (given, (p, (q, tt)))

  -- such a call may give r, and leave x' and y' there
  pub record HasDone (work : F) (given : G) (x : A) (y : B) (r : R) (x' : A) (y' : B) : Type 0 where
    pub first : MutBor A
    pub second : MutBor B
    pub shows : (first.now ≡ x) × (second.now ≡ y)
    pub left : MutBor A × (MutBor B × Unit {0})
    pub met : g.post work (given, (first, (second, tt))) (r, left)
    pub leaves : (left.0.now ≡ x') × (left.1.0.now ≡ y')

  -- the same of work and what is given, where both are there
  abbrev pub MayDoAll : Option F → Option G → A → B → Type 0
  MayDoAll work given x y = Has (λ one. Has (λ all. MayDo one all x y) given) work

  abbrev pub HasDoneAll : Option F → Option G → A → B → R → A → B → Type 0
  HasDoneAll work given x y r x' y' = Has (λ one. Has (λ all. HasDone one all x y r x' y') given) work

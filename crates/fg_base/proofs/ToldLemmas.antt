-- How growths of what is told compose, told or not.
use Rattle.std.proofs.Common.{◌≡◌, Option, None, Some, List, [], ◌++◌, refl, ap}
use Rattle.std.proofs.lemmas.List.{append-nil, append_assoc}
use Rattle.fg_base.specs.Told.{grown}

-- nothing added
pub grown-nil : {A : Type 0} (told : Option (List A)) → grown told [] ≡ told
grown-nil None = refl
grown-nil (Some told) = ap Some (append-nil told)

-- one growth after another
pub grown-grown : {A : Type 0} (told : Option (List A)) (first then_ : List A) → grown (grown told first) then_ ≡ grown told (first ++ then_)
grown-grown None first then_ = refl
grown-grown (Some told) first then_ = ap Some (append_assoc told first then_)

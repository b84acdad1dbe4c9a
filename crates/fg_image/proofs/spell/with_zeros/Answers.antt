use Rattle.std.proofs.Common.{◌≡◌, ℕ, ◌+◌, ◌-◌, List, ◌++◌, length, take, replicate, ap, ◌∙◌, arith}
use Rattle.std.proofs.lemmas.List.{take_all}
use Rattle.fg_image.specs.Making.{blanks}
use Rattle.fg_image.proofs.spell.with_zeros.Goals as goal

grown : (xs new : List ℕ) (n len count : ℕ) → len ≡ length xs → n ≡ len + count → new ≡ take n xs ++ replicate (n - len) 0 → new ≡ xs ++ blanks count
grown xs new n len count long longer is =
    let more : n - len ≡ count = omega arith in
    is ∙ ap (λ (l : List ℕ). l ++ replicate (n - len) 0) (take_all n xs (omega arith)) ∙ ap (λ (k : ℕ). xs ++ replicate k 0) more

pub returns : goal.returns
returns c = grown c.args.bytes.items _ _ _ c.args.count c.args.bytes.ok.0 (omega (arith, c.len.ensures)) c.in_ok-resize.ensures.items

-- The pages that a read puts into the front of the buffer.
use Rattle.std.proofs.Common.{◌≡◌, ◌++◌, ◌∙◌, ℕ, ◌+◌, ◌-◌, ◌*◌, ◌<◌, Option, Some, None, IfSome, List, length, take, drop, ap, arith}
use Rattle.std.proofs.lemmas.List.{length-drop, drop-take, drop-drop, take-take}
use lib.Seq.{take-append-le, drop-append-le}
use Rattle.fg_outside.specs.Pages.{pages_of}
use Rattle.fg_stripe.specs.Held.{page_of}

page_in_front : (bytes : List ℕ) (first count : ℕ) (front rest : List ℕ) → length front ≡ count * 4096 → front ≡ pages_of first count bytes →
    (k : ℕ) → k < count → page_of (front ++ rest) k ≡ page_of bytes (first + k)
page_in_front bytes first count front rest long is k below =
    let at : ℕ = k * 4096 in
    let from : ℕ = first * 4096 in
    let left : ℕ = count * 4096 - k * 4096 in
    let whole : count * 4096 ≡ k * 4096 + (count * 4096 - k * 4096) = omega arith in
    let place : first * 4096 + k * 4096 ≡ (first + k) * 4096 = omega arith in
    let inner : drop (k * 4096) front ≡ take (count * 4096 - k * 4096) (drop (k * 4096) (drop (first * 4096) bytes)) =
    ap (drop (k * 4096)) (is ∙ ap (λ (n : ℕ). take n (drop (first * 4096) bytes)) whole) ∙ drop-take (k * 4096) (count * 4096 - k * 4096) (drop (first * 4096) bytes) in
    ap (take 4096) (drop-append-le (k * 4096) front rest (omega (arith, long)))
    ∙ take-append-le 4096 (drop (k * 4096) front) rest (omega (arith, long, length-drop (k * 4096) front))
    ∙ ap (take 4096) inner
    ∙ take-take 4096 (count * 4096 - k * 4096) (drop (k * 4096) (drop (first * 4096) bytes)) (omega arith)
    ∙ ap (take 4096) (drop-drop (k * 4096) (first * 4096) bytes ∙ ap (λ (n : ℕ). drop n bytes) place)

pub front_pages : (told : Option (List ℕ)) (first count : ℕ) (front rest : List ℕ) → length front ≡ count * 4096 →
    IfSome told (λ bytes. front ≡ pages_of first count bytes) →
    IfSome told (λ bytes. (k : ℕ) → k < count → page_of (front ++ rest) k ≡ page_of bytes (first + k))
front_pages None first count front rest long is = tt
front_pages (Some bytes) first count front rest long is = page_in_front bytes first count front rest long is
